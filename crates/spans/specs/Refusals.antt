-- Refusals in their order: the number given is that of the first whose condition holds.
use Rattle.std.specs.Prelude.{Bool, List, [], ◌∷◌, ℕ, eqb, cond}

-- a line of the table of refusals: a number, and whether its condition holds
pub record Line : Type 0 where
  pub number : ℕ
  pub holds : Bool

infix 68 ◌when◌
-- the number, given when the condition holds
abbrev pub ◌when◌ : ℕ → Bool → Line
◌when◌ n b = record { number = n; holds = b }

-- the number of the first refusal whose condition holds, 0 where none does
unfoldable pub given : List Line → ℕ
given [] = 0
given (r ∷ rs) = cond r.holds r.number (given rs)

-- what a call to which number n is given leaves of l: x where it is done, and l as it was where it is refused
unfoldable pub leaves : ℕ → List ℕ → List ℕ → List ℕ
leaves n x l = cond (eqb n 0) x l
