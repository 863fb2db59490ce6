-- `field::gf_mult` meets its contract: a turn takes the lowest digit of a, and doubles b.
use Rattle.std.proofs.Common.{◌≡◌, ℕ, suc, ◌+◌, ◌-◌, ◌/◌, ◌%◌, ◌^◌, ◌<◌, ◌≤◌, bit_and, sym, subst, ap, ap₂, ◌∙◌, arith}
use lib.Arith.{lt-one}
use lib.Bits.{bit_xor, xor_zero_r, and_mask}
use Rattle.words.proofs.Xor.{xor_assoc}
use Rattle.field.specs.Field.{scale, mul}
use Rattle.field.proofs.Product.{half_lt, twice, mul_step, mul-zero, mul_two}
use Rattle.field.proofs.gf_mult.Goals as goal
use Rattle.field.proofs.gf_mult.Goals.{then-a-eq1, else-a-eq1}

-- the lowest digit of a goes into the result
odd : (a b r : ℕ) → bit_and a 1 ≡ 1 → bit_xor r b ≡ bit_xor r (scale (a % 2) b)
odd a b r e = let o : a % 2 ≡ 1 = sym (and_mask a 1) ∙ e in rw o

even : (a b r : ℕ) → (bit_and a 1 ≡ 1 → ⊥) → r ≡ bit_xor r (scale (a % 2) b)
even a b r n =
    let m : bit_and a 1 ≡ a % 2 = and_mask a 1 in
    let z : a % 2 ≡ 0 = omega (arith, n) in
    rw z (sym (xor_zero_r r))

-- a turn
turn :
    (p a b r t r' d : ℕ) → p < 256 → a < 256 → b < 256 → bit_xor r (mul (256 + p) a b) ≡ t
    → r' ≡ bit_xor r (scale (a % 2) b) → d ≡ mul (256 + p) 2 b → bit_xor r' (mul (256 + p) (a / 2) d) ≡ t
turn p a b r t r' d hp ha hb i e₁ e₂ =
    let v : ℕ = 256 + p in
    let lo : 256 ≤ v = omega arith in
    let hi : v < 512 = omega arith in
    ap₂ (λ (x y : ℕ). bit_xor x (mul v (a / 2) y)) e₁ (e₂ ∙ mul_two v lo hi b hb)
    ∙ xor_assoc r (scale (a % 2) b) (mul v (a / 2) (twice v b))
    ∙ ap (bit_xor r) (sym (mul_step v lo hi a b ha hb))
    ∙ i

pub loop-preserved : goal.loop-preserved
loop-preserved c =
    let l = c.loop in
    let more : 8 - l.counter ≡ suc (8 - (l.counter + 1)) = omega arith in
    record {
      whole =
          turn c.args.p l.a l.b l.result _ _ _ (omega arith) l.invariant.left l.invariant.doubled l.invariant.whole
          (elim c.if-a-eq1.branch [
            | then-a-eq1 w ↦ w.result-is ∙ odd l.a l.b l.result w.if-a-eq1.true
            | else-a-eq1 w ↦ w.result-is ∙ even l.a l.b l.result w.if-a-eq1.false
          ])
          c.double-b.ensures;
      left = omega arith;
      digits = half_lt (8 - (l.counter + 1)) l.a (subst (λ (n : ℕ). l.a < 2 ^ n) more l.invariant.digits);
      doubled = omega arith;
    }

pub returns : goal.returns
returns c =
    let l = c.loop in
    let over : 8 - l.counter ≡ 0 = omega arith in
    let none : l.a ≡ 0 = lt-one (subst (λ (n : ℕ). l.a < 2 ^ n) over l.invariant.digits) in
    let left : mul (256 + c.args.p) l.a l.b ≡ 0 =
    ap (λ (x : ℕ). mul (256 + c.args.p) x l.b) none ∙ mul-zero (256 + c.args.p) l.b in
    sym (xor_zero_r l.result) ∙ ap (bit_xor l.result) (sym left) ∙ l.invariant.whole
