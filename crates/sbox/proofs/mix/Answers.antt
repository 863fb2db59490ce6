-- `sbox::mix` meets its contract, from what `ror4` and `times8` ensure.
use Rattle.std.proofs.Common.{◌≡◌, ℕ, ◌*◌, ◌%◌, ◌<◌, ap, ap₂, ◌∙◌, arith}
use mathlib.Core.Path.{subst⁻¹}
use Rattle.std.proofs.Math.Nat.{mod-eq_of_lt}
use lib.Bits.{bit_xor, xor_lt}
use lib.Dec.{lit≤}
use Rattle.words.specs.Word.{ror}
use Rattle.words.proofs.Rotate.{ror-lt}
use Rattle.sbox.specs.Q.{mixed}
use Rattle.sbox.proofs.mix.Goals as goal

module _ (a b x y : ℕ) (ha : a < 16) (hb : b < 16) (ex : x ≡ ror 4 1 (b % 16)) (ey : y ≡ 8 * a % 16) where
  sum : bit_xor (bit_xor a x) y ≡ mixed a b
  unfolding mixed
  sum = ap₂ (λ (u v : ℕ). bit_xor (bit_xor a u) v) (ex ∙ ap (ror 4 1) (mod-eq_of_lt hb)) ey

  nibble : bit_xor (bit_xor a x) y < 16
  nibble =
      xor_lt 4 (bit_xor a x) y
      (xor_lt 4 a x ha (subst⁻¹ (λ (u : ℕ). u < 16) ex (ror-lt 4 1 (b % 16) (lit≤ tt) (omega arith))))
      (omega arith)

pub returns : goal.returns
returns c =
    let a = c.args in
    let p = c.requires in (
      sum a.a a.b _ _ p.0 p.1 c.ror4.ensures c.times8.ensures,
      nibble a.a a.b _ _ p.0 p.1 c.ror4.ensures c.times8.ensures,
    )
