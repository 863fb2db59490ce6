-- `field::double` meets its contract: the mask tests the top digit, the shift drops it, and with it x^8 of the polynomial.
use Rattle.std.proofs.Common.{◌≡◌, ℕ, ◌+◌, ◌*◌, ◌/◌, ◌%◌, ◌^◌, ◌<◌, bit_and, sym, ap, ◌∙◌, arith}
use Rattle.std.proofs.Math.Nat.{zero-add}
use lib.Bits.{bit_xor, and_high, xor_block, xor_zero_r}
use Rattle.field.specs.Field.{mul}
use Rattle.field.proofs.Product.{twice, mul_two}
use Rattle.field.proofs.double.Goals as goal

-- the mask keeps the top digit
top : (b : ℕ) → b < 256 → bit_and b 128 ≡ b / 128 * 128
top b h = and_high b 1 7 ∙ omega arith

module _ (b p : ℕ) (hb : b < 256) (hp : p < 256) where
  -- x^8 cancels
  dropped : bit_xor (b * 2 % 256) p ≡ bit_xor (1 * 2 ^ 8 + b * 2 % 256) (1 * 2 ^ 8 + p)
  dropped = sym (xor_block 8 1 1 (b * 2 % 256) p (omega arith) hp ∙ zero-add (bit_xor (b * 2 % 256) p))

  with_top : bit_and b 128 ≡ 128 → bit_xor (b * 2 % 256) p ≡ mul (256 + p) 2 b
  unfolding twice
  with_top e =
      let one : b / 128 ≡ 1 = omega (arith, top b hb) in
      let whole : 1 * 2 ^ 8 + b * 2 % 256 ≡ 2 * b = omega arith in
      dropped ∙ ap (λ (x : ℕ). bit_xor x (256 + p)) whole
      ∙ sym (mul_two (256 + p) (omega arith) (omega arith) b hb ∙ rw one)

  without_top : (bit_and b 128 ≡ 128 → ⊥) → b * 2 % 256 ≡ mul (256 + p) 2 b
  unfolding twice
  without_top n =
      let none : b / 128 ≡ 0 = omega (arith, top b hb) in
      let whole : b * 2 % 256 ≡ 2 * b = omega arith in
      whole ∙ sym (mul_two (256 + p) (omega arith) (omega arith) b hb ∙ rw none (xor_zero_r (2 * b)))

pub returns-then-b-eq128 : goal.returns-then-b-eq128
returns-then-b-eq128 c = with_top c.args.b c.args.p (omega arith) (omega arith) c.if-b-eq128.true

pub returns-else-b-eq128 : goal.returns-else-b-eq128
returns-else-b-eq128 c = without_top c.args.b c.args.p (omega arith) (omega arith) c.if-b-eq128.false
