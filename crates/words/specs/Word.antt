-- Nibbles, bytes and 32-bit words, in plain arithmetic.
use Rattle.std.specs.Prelude.{ℕ, ◌+◌, ◌-◌, ◌*◌, ◌/◌, ◌%◌, ◌^◌, List, [], ◌∷◌}

-- a number of w binary digits rotated left by n: the lower w - n digits go up, the n highest come in below
unfoldable pub rol : ℕ → ℕ → ℕ → ℕ
rol w n x = x % 2 ^ (w - n) * 2 ^ n + x / 2 ^ (w - n)

-- the same rotated right by n: the n lowest digits go to the top
unfoldable pub ror : ℕ → ℕ → ℕ → ℕ
ror w n x = x % 2 ^ n * 2 ^ (w - n) + x / 2 ^ n

-- the sum modulo 2^32
unfoldable pub sum32 : ℕ → ℕ → ℕ
sum32 x y = (x + y) % 2 ^ 32

-- the number of bytes read low byte first: b0 + 2^8 b1 + 2^16 b2 + ..
unfoldable pub word_of : List ℕ → ℕ
word_of [] = 0
word_of (b ∷ bs) = b + 2 ^ 8 * word_of bs

-- byte i of a number, the lowest first
unfoldable pub byte_of : ℕ → ℕ → ℕ
byte_of x i = x / 2 ^ (8 * i) % 2 ^ 8

-- the four bytes of a word, the lowest first
unfoldable pub bytes_of : ℕ → List ℕ
bytes_of x = byte_of x 0 ∷ byte_of x 1 ∷ byte_of x 2 ∷ byte_of x 3 ∷ []
