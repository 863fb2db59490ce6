-- Any series of calls from an empty store: it goes as on the list of the accepted records, and the store holds these.
use Rattle.std.proofs.Common.{◌≡◌, ◌≢◌, ℕ, ◌≤◌, List, [], ◌∷◌, length, All, refl, sym, ap₂, subst, ◌∙◌, arith}
use Rattle.std.proofs.lemmas.List.Elements.{All-nil, All-cons, All-head, All-tail}
use borrow.Author.Tests.{le-ltb}
use Rattle.spans.specs.Refusals.{given}
use Rattle.spans.proofs.RefusalLaws.{never_given}
use Rattle.settings.specs.declared.Entry.{Entry}
use Rattle.settings.specs.Records.{state}
use Rattle.settings.specs.Answers.{add_answer, read_answer}
use Rattle.settings.specs.Calls.{Call, Add, Read, Fits32, Answer, Reads, answer_number, answers, at_end, Held, store_answer, on_store, list_number, accepted_at, list_answer, on_list, Holds}
use Rattle.settings.proofs.HoldsLaws.{Right, answer_held, still_right}

-- a series goes on as a call does
follows :
    (calls : List Call) → All Fits32 calls → (accepted : List Entry) (h : Held) → Right accepted h
    → (answers on_store calls h ≡ answers on_list calls accepted) × Right (at_end on_list calls accepted) (at_end on_store calls h)
unfolding answers at_end
follows [] fits accepted h r = (refl, r)
follows (c ∷ calls) fits accepted h r =
    let rest = follows calls (All-tail Fits32 c calls fits) _ _ (still_right r c (All-head Fits32 c calls fits)) in
    (ap₂ (λ (a : Answer) (l : List Answer). a ∷ l) (answer_held r c) rest.0, rest.1)

-- the numbers of the refusals on the list
other_number : (c : Call) (n : ℕ) → (list_number c n ≢ 16) × (list_number c n ≢ 17)
unfolding list_number
other_number (Add entry) n = (never_given 16 _ (λ z. omega (arith, z)) tt, never_given 17 _ (λ z. omega (arith, z)) tt)
other_number (Read version) n = (never_given 16 _ (λ z. omega (arith, z)) tt, never_given 17 _ (λ z. omega (arith, z)) tt)

-- neither 16 nor 17
abbrev pub Unbroken : Answer → Type 0
Unbroken a = (answer_number a ≢ 16) × (answer_number a ≢ 17)

unbroken : (c : Call) (accepted : List Entry) → Unbroken (list_answer c accepted)
unfolding list_answer add_answer read_answer
unbroken (Add entry) accepted = other_number (Add entry) (length accepted)
unbroken (Read version) accepted = other_number (Read version) (length accepted)

all_unbroken : (calls : List Call) (accepted : List Entry) → All Unbroken (answers on_list calls accepted)
unfolding answers
all_unbroken [] accepted = All-nil Unbroken
all_unbroken (c ∷ calls) accepted = All-cons Unbroken _ _ (unbroken c accepted) (all_unbroken calls _)

-- a version up to their number is read
listed :
    (version : ℕ) (accepted : List Entry) → version ≤ length accepted
    → list_answer (Read version) accepted ≡ Reads record { number = 0; values = state (accepted_at accepted) version }
unfolding list_answer list_number given read_answer
listed version accepted h = simp (le-ltb _ _ h)

-- any calls, refused or done, on any 8,192 bytes of which none are used
module _ (calls : List Call) (fits : All Fits32 calls) (store : List ℕ) (long : length store ≡ 8192) where
  abbrev pub empty : Held
  empty = record { store = store; used = 0 }

  -- the records that are accepted, and the store at the end with the used number that was handed back last
  abbrev pub accepted : List Entry
  accepted = at_end on_list calls []

  abbrev pub end : Held
  end = at_end on_store calls empty

  both : (answers on_store calls empty ≡ answers on_list calls []) × Right accepted end
  both =
      follows calls fits [] empty
      record { holds = record { long = long; used = refl; few = omega arith; same = refl }; each = λ i h. absurd (omega (arith, h)) }

  -- each call answers what it answers on the list; so a reading that is not refused gives the state that the records accepted till then say
  pub answers_followed : answers on_store calls empty ≡ answers on_list calls []
  answers_followed = both.0

  -- the used records are exactly the accepted ones, in order
  pub records_held : Holds accepted end
  records_held = both.1.holds

  -- no call is refused by 16 or 17
  pub never_broken : All Unbroken (answers on_store calls empty)
  never_broken = subst (All Unbroken) (sym answers_followed) (all_unbroken calls [])

  -- a reading of any version up to the used number gives the state that the accepted records say for it
  pub any_version :
      (version : ℕ) → version ≤ end.used
      → store_answer (Read version) end ≡ Reads record { number = 0; values = state (accepted_at accepted) version }
  any_version version h = answer_held both.1 (Read version) ∙ listed version accepted (omega (arith, h, records_held.used))
