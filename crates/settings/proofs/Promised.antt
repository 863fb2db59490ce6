-- The step from the code to calls on a store: what `set`, `go_back` and `read` promise is what comes of their calls.
use Rattle.std.proofs.Common.{◌≡◌, ℕ, Result, List, ap, ap₂}
use Rattle.settings.specs.declared.Refused.{Refused}
use Rattle.settings.specs.declared.Added.{Added}
use Rattle.settings.specs.declared.Reading.{Reading}
use Rattle.settings.specs.declared.Entry.{Entry}
use Rattle.settings.specs.declared.Entry.TheVariants.{Set, GoBack}
use Rattle.settings.specs.Answers.{added, reading}
use Rattle.settings.specs.Calls.{Add, Read, Adds, Reads, Held, store_answer, store_after}
use Rattle.settings.proofs.set.Reads as set
use Rattle.settings.proofs.go_back.Reads as go_back
use Rattle.settings.proofs.read.Reads as read

abbrev holding : List ℕ → ℕ → Held
holding store used = record { store = store; used = used }

-- a promise P, over lifetimes, arguments, a result and the parameters at exit, is that of a record to be added: its answer is that call's, and
-- the store at exit, with the used number that is handed back, is what is there after it
abbrev pub AddPromise {i j k} :
    {L : Type i} {A : L → Type j} {S : L → Type k} → ((κ : L) → A κ → Result ℕ Refused → S κ → Type 0)
    → ((κ : L) → A κ → Entry) → ((κ : L) → A κ → Held) → ((κ : L) → S κ → List ℕ) → Type (i ⊔ j ⊔ k)
AddPromise {L = L} {A = A} {S = S} P entry before store =
    (κ : L) (a : A κ) (r : Result ℕ Refused) (s : S κ) → P κ a r s
    → (Adds (added r) ≡ store_answer (Add (entry κ a)) (before κ a))
    × (holding (store κ s) (added r).used ≡ store_after (Add (entry κ a)) (before κ a))

pub set-promised : AddPromise set.Post (λ κ a. Set a.1.1.0 a.1.1.1.0) (λ κ a. holding a.0.now a.1.0) (λ κ s. s.0.now)
unfolding store_answer store_after
set-promised κ a r s p = (ap (λ (x : Added). Adds x) p.0, ap₂ holding p.1 (ap (λ (x : Added). x.used) p.0))

pub go_back-promised : AddPromise go_back.Post (λ κ a. GoBack a.1.1.0) (λ κ a. holding a.0.now a.1.0) (λ κ s. s.0.now)
unfolding store_answer store_after
go_back-promised κ a r s p = (ap (λ (x : Added). Adds x) p.0, ap₂ holding p.1 (ap (λ (x : Added). x.used) p.0))

-- read is lent the store to look at, so that it stays
pub read-promised : (κ : _) (a : _) (r : _) (s : _) → read.Post κ a r s → Reads (reading r) ≡ store_answer (Read a.1.1.0) (holding a.0.now a.1.0)
unfolding store_answer
read-promised κ a r s p = ap (λ (x : Reading). Reads x) p
