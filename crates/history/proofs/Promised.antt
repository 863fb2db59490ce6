-- The step from the code to calls on an image: what seal, patch and read promise is what comes of their calls, and the image after them.
use Rattle.std.proofs.Common.{◌≡◌, ℕ, Bool, true, false, Result, List, [], cond, refl, ap₂}
use Rattle.spans.specs.Refusals.{leaves}
use Rattle.twofish.specs.declared.Answer.{Answer}
use Rattle.twofish.specs.declared.Refusal.{Refusal}
use Rattle.twofish.specs.declared.Twofish.{Twofish}
use Rattle.twofish.specs.Answers.{counted}
use Rattle.sealed.specs.declared.Geometry.{Geometry}
use Rattle.sealed.specs.Image.{access_answer}
use Rattle.sealed.proofs.seal.Reads as seal
use Rattle.sealed.proofs.patch.Reads as patch
use Rattle.sealed.proofs.read.Reads as read
use Rattle.history.specs.Calls.{Call, Seal, Patch, Read, Outcome, count, lent, outcome, after, image_number, image_place, image_bytes, image_next, on_image}

-- a promise P, over lifetimes, arguments, a result and the parameters at exit, is that of a call: its answer and the bytes lent for it are what comes of
-- the call, and the image at exit is that after it
abbrev pub PromiseOf {i j k} :
    {L : Type i} {A : L → Type j} {S : L → Type k} → ((κ : L) → A κ → Result ℕ Refusal → S κ → Type 0)
    → ((κ : L) → A κ → Twofish) → ((κ : L) → A κ → Geometry) → ((κ : L) → A κ → Call) → ((κ : L) → A κ → List ℕ)
    → ((κ : L) → S κ → List ℕ) → ((κ : L) → A κ → S κ → List ℕ) → Type (i ⊔ j ⊔ k)
PromiseOf {L = L} {A = A} {S = S} P t G call image out image' =
    (κ : L) (a : A κ) (r : Result ℕ Refusal) (s : S κ) → P κ a r s
    → (record { answer = counted r; out = out κ s } ≡ outcome (on_image (t κ a) (G κ a)) (call κ a) (image κ a))
    × (image' κ a s ≡ after (on_image (t κ a) (G κ a)) (call κ a) (image κ a))

either : (b : Bool) (l : List ℕ) → l ≡ cond b l l
either true l = refl
either false l = refl

abbrev come : Answer → List ℕ → Outcome
come a l = record { answer = a; out = l }

pub seal-promised :
    PromiseOf seal.Post (λ κ a. a.0) (λ κ a. a.1.0) (λ κ a. Seal a.1.1.1.0 a.1.1.1.1.0 a.1.1.1.1.1.0.now) (λ κ a. a.1.1.0.now) (λ κ s. [])
    (λ κ a s. s.1.1.0.now)
unfolding leaves outcome after count lent image_number image_place image_bytes image_next
seal-promised κ a r s p = (ap₂ come p.0 (either _ []), p.1)

pub patch-promised :
    PromiseOf patch.Post (λ κ a. a.0) (λ κ a. a.1.0) (λ κ a. Patch a.1.1.1.0 a.1.1.1.1.0 a.1.1.1.1.1.0.now) (λ κ a. a.1.1.0.now) (λ κ s. [])
    (λ κ a s. s.1.1.0.now)
unfolding access_answer leaves outcome after count lent image_number image_place image_bytes image_next
patch-promised κ a r s p = (ap₂ come p.0 (either _ []), p.1)

-- read is lent the image to look at, so that it stays
pub read-promised :
    PromiseOf read.Post (λ κ a. a.0) (λ κ a. a.1.0) (λ κ a. Read a.1.1.1.0 a.1.1.1.1.0 a.1.1.1.1.1.0.now) (λ κ a. a.1.1.0.now)
    (λ κ s. s.1.1.1.1.1.0.now) (λ κ a s. a.1.1.0.now)
unfolding access_answer leaves outcome after count lent image_number image_place image_bytes image_next
read-promised κ a r s p = (ap₂ come p.0 p.1, either _ a.1.1.0.now)
