-- What a call answers: a number, a count, and a place; and the refusals by their numbers, as documents 01 and 02 have them.
use Rattle.std.specs.Prelude.{ℕ, eqb, Result, Ok, Err, cond}
use Rattle.twofish.specs.declared.Answer.{Answer}
use Rattle.twofish.specs.declared.Location.{Location}
use Rattle.twofish.specs.declared.Refusal.{Refusal}
use Rattle.twofish.specs.declared.Refusal.TheVariants.{KeyLength, Start, BlockLength, Geometry, ImageLength, Place, Length, Record, Outside, TooMany, Elsewhere}

-- what stands where no place is said
abbrev pub nowhere : Location
nowhere = record { bank = 0; page = 0 }

-- number n with count c and a place
abbrev pub told : ℕ → ℕ → Location → Answer
told n c l = record { number = n; count = c; bank = l.bank; page = l.page }

-- number n with count c; a refusal, n not 0, has count 0; and by 11 it says the place l, whose record a look found
unfoldable pub answer_at : Location → ℕ → ℕ → Answer
answer_at l n c = told n (cond (eqb n 0) c 0) (cond (eqb n 11) l nowhere)

-- the same of a call that looks at no record
abbrev pub answer : ℕ → ℕ → Answer
answer n c = answer_at nowhere n c

-- the number of a refusal
abbrev pub refusal_number : Refusal → ℕ
refusal_number KeyLength = 1
refusal_number Start = 2
refusal_number BlockLength = 3
refusal_number Geometry = 4
refusal_number ImageLength = 5
refusal_number Place = 6
refusal_number Length = 7
refusal_number Record = 8
refusal_number Outside = 9
refusal_number TooMany = 10
refusal_number (Elsewhere l) = 11

-- the place that it says
abbrev pub refusal_location : Refusal → Location
refusal_location (Elsewhere l) = l
refusal_location e = nowhere

-- what a refusal answers
abbrev pub refused_answer : Refusal → Answer
refused_answer e = told (refusal_number e) 0 (refusal_location e)

-- what an outcome that counts nothing answers
abbrev pub answered : {A : Type 0} → Result A Refusal → Answer
answered (Ok v) = told 0 0 nowhere
answered (Err e) = refused_answer e

-- what an outcome that counts answers
abbrev pub counted : Result ℕ Refusal → Answer
counted (Ok n) = told 0 n nowhere
counted (Err e) = refused_answer e
