-- The paper's fields: a byte with binary digits a7 .. a0 stands for the polynomial a7 x^7 + .. + a0 over GF(2), sums are xor, and
-- products are those of polynomials, reduced modulo a polynomial of degree 8.
use Rattle.std.specs.Prelude.{ℕ, zero, suc, ◌+◌, ◌*◌, ◌/◌, ◌%◌, ◌^◌}
use Rattle.std.specs.Int.Bits.{bit_xor}

-- b times a digit: nothing where the digit is 0
abbrev pub scale : ℕ → ℕ → ℕ
scale zero b = 0
scale (suc d) b = b

-- the product of polynomials, a of n digits: a0 b + x ((a div x) b)
unfoldable pub product : ℕ → ℕ → ℕ → ℕ
product zero a b = 0
product (suc n) a b = bit_xor (scale (a % 2) b) (2 * product n (a / 2) b)

-- what is left of c, of degree below 8 + n, after long division by v of degree 8: from the top down, where digit 8 + i of c is 1, x^i v is taken away
unfoldable pub remainder : ℕ → ℕ → ℕ → ℕ
remainder v zero c = c
remainder v (suc n) c = remainder v n (bit_xor c (scale (c / 2 ^ (8 + n) % 2) (v * 2 ^ n)))

-- the product of two bytes modulo v: two polynomials of degree 7 at most make one of degree 14 at most
unfoldable pub mul : ℕ → ℕ → ℕ → ℕ
mul v a b = remainder v 7 (product 8 a b)
