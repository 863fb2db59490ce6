-- A call of the host, which gives the key's bytes and not a schedule: refusal 1 takes the place of refusal 2.
use Rattle.std.specs.Prelude.{List, ℕ, Option, Some, None, length, cond}
use Rattle.twofish.specs.declared.Twofish.{Twofish}
use Rattle.twofish.specs.Answers.{nowhere}
use Rattle.twofish.specs.Schedule.{taken, set_up}
use Rattle.sealed.specs.declared.Geometry.{Geometry}
use Rattle.boxful.specs.Boxful.{Judged}

-- the schedule of a key
unfoldable pub schedule_of : List ℕ → Twofish
schedule_of key = (set_up key).schedule

-- the number of the host's call: 1 where the key's length is not taken, else the number that the call gives under the key's schedule
unfoldable pub keyed : List ℕ → (Twofish → ℕ) → ℕ
keyed key number = cond (taken (length key)) (number (schedule_of key)) 1

-- the same of a list, which is refused by 1 as a whole
unfoldable pub keyed_list : List ℕ → (Twofish → Judged) → Judged
keyed_list key comes_to = cond (taken (length key)) (comes_to (schedule_of key)) record { number = 1; place = 0; held = nowhere }

-- the geometry of so many pages in a bank, and banks
abbrev pub geometry : ℕ → ℕ → Geometry
geometry pages banks = record { pages = pages; banks = banks }

-- a page, or 256 where there is none
abbrev pub or_none : Option ℕ → ℕ
or_none (Some page) = page
or_none None = 256
