-- Four masks of 64 bits: the bit of a page, the masks of a test on pages, how many pages pass one, and the next that does.
use Rattle.std.specs.Prelude.{Bool, ◌||◌, cond, eqb, ltb, List, [], ◌∷◌, ℕ, zero, suc, ◌+◌, ◌-◌, ◌/◌, ◌%◌, ◌^◌, get_or, Option, Some, None}
use Rattle.std.specs.Int.{bit_at}

-- whether the bit of a page is set: bit page mod 64 of mask page div 64
unfoldable pub is_set : List ℕ → ℕ → Bool
is_set masks page = eqb (bit_at (get_or masks (page / 64) 0) (page % 64)) 1

-- the number whose digit i is 1 where f i holds, of n binary digits
unfoldable pub number : (ℕ → Bool) → ℕ → ℕ
number f zero = 0
number f (suc n) = cond (f n) (2 ^ n) 0 + number f n

-- the masks in which the bit of a page is set where f holds of it, and no other
unfoldable pub masks_of : (ℕ → Bool) → List ℕ
masks_of f = number f 64 ∷ number (λ i. f (64 + i)) 64 ∷ number (λ i. f (128 + i)) 64 ∷ number (λ i. f (192 + i)) 64 ∷ []

-- masks with the bit of a page set beside theirs; a page from 256 on has none
unfoldable pub marked : List ℕ → ℕ → List ℕ
marked masks page = cond (ltb page 256) (masks_of (λ p. is_set masks p || eqb p page)) masks

-- how many numbers below n pass f
unfoldable pub how_many : (ℕ → Bool) → ℕ → ℕ
how_many f zero = 0
how_many f (suc n) = how_many f n + cond (f n) 1 0

-- the first of n numbers from m on that passes f
unfoldable pub first : (ℕ → Bool) → ℕ → ℕ → Option ℕ
first f m zero = None
first f m (suc n) = cond (f m) (Some m) (first f (suc m) n)

-- the next page from a given one on that passes f
unfoldable pub next_of : (ℕ → Bool) → ℕ → Option ℕ
next_of f from = first f from (256 - from)
