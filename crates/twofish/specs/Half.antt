-- Every other word of a key, as the code names it.
use Rattle.std.specs.Prelude.{ℕ}
use Rattle.twofish.specs.declared.Half.{Half}
use Rattle.twofish.specs.declared.Half.TheVariants.{Even, Odd}

-- the number of the first word of a half: o of `every_other`
abbrev pub first_of : Half → ℕ
first_of Even = 0
first_of Odd = 1
