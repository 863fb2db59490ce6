-- Lists of bytes: their xor, and whether they are the same.
use Rattle.std.specs.Prelude.{◌≡◌, Bool, true, false, ◌&&◌, List, [], ◌∷◌, ℕ, ◌<◌, eqb, length, get_or}
use Rattle.std.specs.Int.Bits.{bit_xor}

-- n bytes
pub record Bytes (n : ℕ) (l : List ℕ) : Type 0 where
  pub long : length l ≡ n
  pub byte : (i : ℕ) → get_or l i 0 < 256

-- two lists xored byte by byte, as far as both go
unfoldable pub xor_bytes : List ℕ → List ℕ → List ℕ
xor_bytes [] bs = []
xor_bytes (x ∷ xs) [] = []
xor_bytes (x ∷ xs) (b ∷ bs) = bit_xor x b ∷ xor_bytes xs bs

-- whether two lists are the same
unfoldable pub same : List ℕ → List ℕ → Bool
same [] [] = true
same [] (y ∷ ys) = false
same (x ∷ xs) [] = false
same (x ∷ xs) (y ∷ ys) = eqb x y && same xs ys
