-- Calls in any series, on a lent store with its used number, and on the list of the records that are accepted.
use Rattle.std.specs.Prelude.{◌≡◌, ◌^◌, ◌<◌, ◌≤◌, List, [], ◌∷◌, ◌++◌, ℕ, ◌*◌, eqb, ltb, cond, length, take, get_or}
use Rattle.std.specs.List.{flat_map}
use Rattle.spans.specs.Refusals.{◌when◌, given, leaves}
use Rattle.settings.specs.declared.Added.{Added}
use Rattle.settings.specs.declared.Reading.{Reading}
use Rattle.settings.specs.declared.Entry.{Entry}
use Rattle.settings.specs.declared.Entry.TheVariants.{Set, GoBack}
use Rattle.settings.specs.Records.{laid, outside, record_at, state}
use Rattle.settings.specs.Answers.{read_number, read_answer, add_number, add_answer, written}

-- a record to be added, which sets a setting or goes back, or a version to be read
pub data Call : Type 0 where
  Add : Entry → Call
  Read : ℕ → Call

-- a value that is set has 32 bits
unfoldable pub Fits32 : Call → Type 0
Fits32 (Add (Set setting value)) = value < 2 ^ 32
Fits32 (Add (GoBack version)) = Unit {0}
Fits32 (Read version) = Unit {0}

-- what a call answers, and its number
pub data Answer : Type 0 where
  Adds : Added → Answer
  Reads : Reading → Answer

abbrev pub answer_number : Answer → ℕ
answer_number (Adds a) = a.number
answer_number (Reads a) = a.number

-- calls on a state: what a call answers, and the state after it
pub record Acts (S : Type 0) : Type 0 where
  pub answer : Call → S → Answer
  pub after : Call → S → S

module _ {S : Type 0} (acts : Acts S) where
  -- what the calls of a series answer, in order
  unfoldable pub answers : List Call → S → List Answer
  answers [] s = []
  answers (c ∷ cs) s = acts.answer c s ∷ answers cs (acts.after c s)

  -- the state at the end of a series
  unfoldable pub at_end : List Call → S → S
  at_end [] s = s
  at_end (c ∷ cs) s = at_end cs (acts.after c s)

-- a lent store, and the used number that is handed in with it
pub record Held : Type 0 where
  pub store : List ℕ
  pub used : ℕ

-- calls on these, by the definitions that the contracts of `set`, `go_back` and `read` name; the used number handed in is that handed back last
unfoldable pub store_answer : Call → Held → Answer
store_answer (Add entry) h = Adds (add_answer (add_number h.store h.used entry) h.used)
store_answer (Read version) h = Reads (read_answer (read_number h.store h.used version) (state (record_at h.store) version))

unfoldable pub store_after : Call → Held → Held
store_after (Add entry) h =
    record {
      store = leaves (add_number h.store h.used entry) (written entry h.used h.store) h.store;
      used = (add_answer (add_number h.store h.used entry) h.used).used;
    }
store_after (Read version) h = h

abbrev pub on_store : Acts Held
on_store = record { answer = store_answer; after = store_after }

-- the number of a call's refusal where so many records are accepted: 16 and 17 are none of them
unfoldable pub list_number : Call → ℕ → ℕ
list_number (Add entry) n = given (18 when outside n entry ∷ 19 when eqb n 1024 ∷ [])
list_number (Read version) n = given (18 when ltb n version ∷ [])

-- accepted record i, counted from 0
unfoldable pub accepted_at : List Entry → ℕ → Entry
accepted_at accepted i = get_or accepted i (GoBack 0)

-- a record is answered by their number, and a version by the state that they say
unfoldable pub list_answer : Call → List Entry → Answer
list_answer (Add entry) accepted = Adds (add_answer (list_number (Add entry) (length accepted)) (length accepted))
list_answer (Read version) accepted = Reads (read_answer (list_number (Read version) (length accepted)) (state (accepted_at accepted) version))

-- a record that is not refused is accepted
unfoldable pub list_after : Call → List Entry → List Entry
list_after (Add entry) accepted = cond (eqb (list_number (Add entry) (length accepted)) 0) (accepted ++ entry ∷ []) accepted
list_after (Read version) accepted = accepted

abbrev pub on_list : Acts (List Entry)
on_list = record { answer = list_answer; after = list_after }

-- the used records of a store are those that are accepted, in order
pub record Holds (accepted : List Entry) (h : Held) : Type 0 where
  pub long : length h.store ≡ 8192
  pub used : h.used ≡ length accepted
  pub few : length accepted ≤ 1024
  pub same : take (8 * h.used) h.store ≡ flat_map laid accepted
