-- Refusals in their order, and what a call answers and leaves.
use Rattle.std.specs.Prelude.{Bool, false, not, ◌||◌, List, [], ◌∷◌, ℕ, ◌+◌, ◌*◌, Result, Ok, Err, eqb, ltb, cond, length}
use Rattle.spans.specs.Parts.{splice}
use Rattle.spans.specs.Refusals.{Line, ◌when◌, given}
use Rattle.settings.specs.declared.Refusal.{Refusal}
use Rattle.settings.specs.declared.Refusal.TheVariants.{Store, Layout, Outside, Full}
use Rattle.settings.specs.declared.Refused.{Refused}
use Rattle.settings.specs.declared.Added.{Added}
use Rattle.settings.specs.declared.Reading.{Reading}
use Rattle.settings.specs.declared.Entry.{Entry}
use Rattle.settings.specs.Records.{laid, outside, broken, zeros}

-- the number of a refusal
abbrev pub refusal_number : Refusal → ℕ
refusal_number Store = 16
refusal_number Layout = 17
refusal_number Outside = 18
refusal_number Full = 19

-- the number of an outcome, which is 0 where the call is done
abbrev pub outcome_number : {A : Type 0} → Result A Refusal → ℕ
outcome_number (Ok v) = 0
outcome_number (Err e) = refusal_number e

-- the refusals of a call, in order: `out` where its setting or version is outside, and `full` where it adds a record and there is no room for it
unfoldable pub refusals : List ℕ → ℕ → Bool → Bool → List Line
refusals store used out full =
    16 when (not (eqb (length store) 8192) || ltb 1024 used) ∷ 17 when broken used store ∷ 18 when out ∷ 19 when full ∷ []

-- the number of a reading's refusal
unfoldable pub read_number : List ℕ → ℕ → ℕ → ℕ
read_number store used version = given (refusals store used (ltb used version) false)

-- the number of the refusal of a record to be added
unfoldable pub add_number : List ℕ → ℕ → Entry → ℕ
add_number store used entry = given (refusals store used (outside used entry) (eqb used 1024))

-- the store with a record after the used ones
unfoldable pub written : Entry → ℕ → List ℕ → List ℕ
written entry used store = splice (8 * used) (laid entry) store

-- the answer to a record: the used number, one more where the record is added
unfoldable pub add_answer : ℕ → ℕ → Added
add_answer n used = record { number = n; used = cond (eqb n 0) (used + 1) used }

-- the number and used number of an outcome
abbrev pub added : Result ℕ Refused → Added
added (Ok used) = record { number = 0; used = used }
added (Err e) = record { number = refusal_number e.refusal; used = e.used }

-- the answer to a reading: zeros where it is refused
unfoldable pub read_answer : ℕ → List ℕ → Reading
read_answer n values = record { number = n; values = cond (eqb n 0) values zeros }

-- the number and values of an outcome
abbrev pub reading : Result (List ℕ) Refusal → Reading
reading (Ok values) = record { number = 0; values = values }
reading (Err e) = record { number = refusal_number e; values = zeros }
