-- Laws of numbers by their binary digits: the number of a test has the digits that the test says, and no other number of as many digits has them.
use Rattle.std.proofs.Common.{◌≡◌, ℕ, zero, suc, ◌+◌, ◌-◌, ◌*◌, ◌^◌, ◌<◌, ◌≤◌, ◌⊎◌, inl, inr, Bool, true, false, cond, eqb, refl, sym, ap, subst, ◌∙◌, arith}
use Rattle.std.proofs.lemmas.Bool.{cases_lt, eqb-false}
use Rattle.std.proofs.lemmas.Nat.{pow_pos}
use Rattle.std.proofs.lemmas.Nat.Bits.{bit_at-lt, bit_at-zero, bit_at_cat_low, bit_at_cat_high, same_from_bits_below}
use borrow.Author.Tests.{eqb-true}
use Rattle.std.specs.Int.{bit_at}
use Rattle.masks.specs.Masks.{number}

-- whether digit i of n is 1
abbrev pub is_one : ℕ → ℕ → Bool
is_one n i = eqb (bit_at n i) 1

-- 0 has none
pub zero_is_one : (i : ℕ) → is_one 0 i ≡ false
zero_is_one i = ap (λ (b : ℕ). eqb b 1) (bit_at-zero i)

pub number-lt : (f : ℕ → Bool) (n : ℕ) → number f n < 2 ^ n
unfolding number
number-lt f zero = omega arith
number-lt f (suc n) = by (f n) (number-lt f n)
  where
    by : (b : Bool) → number f n < 2 ^ n → cond b (2 ^ n) 0 + number f n < 2 ^ suc n
    by true h = omega arith
    by false h = omega (arith, pow_pos n)

-- the number of a test has its digits
pub number-is_one : (f : ℕ → Bool) (n i : ℕ) → i < n → is_one (number f n) i ≡ f i
unfolding number
number-is_one f zero i h = absurd (omega (arith, h))
number-is_one f (suc n) i h = by (cases_lt i n) (λ k. number-is_one f n i k)
  where
    below : (b : Bool) → i < n → is_one (cond b (2 ^ n) 0 + number f n) i ≡ is_one (number f n) i
    below true k =
        let one : 2 ^ n + number f n ≡ 1 * 2 ^ n + number f n = omega arith in
        ap (λ (m : ℕ). is_one m i) one ∙ ap (λ (m : ℕ). eqb m 1) (bit_at_cat_low 1 n (number f n) i k)
    below false k = let none : 0 + number f n ≡ number f n = omega arith in ap (λ (m : ℕ). is_one m i) none

    last : (b : Bool) → is_one (cond b (2 ^ n) 0 + number f n) n ≡ b
    last b =
        let a : ℕ = cond b 1 0 in
        let none : n - n ≡ 0 = omega arith in
        let whole : cond b (2 ^ n) 0 + number f n ≡ a * 2 ^ n + number f n = at b in
        ap (λ (m : ℕ). is_one m n) whole
        ∙ ap (λ (m : ℕ). eqb m 1) (bit_at_cat_high a n (number f n) n (number-lt f n) (omega arith))
        ∙ ap (λ (k : ℕ). is_one a k) none
        ∙ alone b
      where
        at : (b : Bool) → cond b (2 ^ n) 0 + number f n ≡ cond b 1 0 * 2 ^ n + number f n
        at true = omega arith
        at false = omega arith

        alone : (b : Bool) → is_one (cond b 1 0) 0 ≡ b
        alone true = refl
        alone false = refl

    by : (i < n) ⊎ (n ≤ i) → (i < n → is_one (number f n) i ≡ f i) → is_one (cond (f n) (2 ^ n) 0 + number f n) i ≡ f i
    by (inl k) rest = below (f n) k ∙ rest k
    by (inr k) rest = let e : n ≡ i = omega (arith, h, k) in subst (λ (j : ℕ). is_one (cond (f n) (2 ^ n) 0 + number f n) j ≡ f j) e (last (f n))

-- digits that are alike as tests are the same
digit_same : (x y : ℕ) → x < 2 → y < 2 → eqb x 1 ≡ eqb y 1 → x ≡ y
digit_same zero zero h k e = refl
digit_same zero (suc zero) h k e = absurd (eqb-false 0 1 refl (eqb-true 0 1 e))
digit_same (suc zero) zero h k e = absurd (eqb-false 0 1 refl (eqb-true 0 1 (sym e)))
digit_same (suc zero) (suc zero) h k e = refl
digit_same (suc (suc x)) y h k e = absurd (omega (arith, h))
digit_same x (suc (suc y)) h k e = absurd (omega (arith, k))

-- numbers of n digits that are alike are the same
pub number_same : (n a b : ℕ) → a < 2 ^ n → b < 2 ^ n → ((i : ℕ) → i < n → is_one a i ≡ is_one b i) → a ≡ b
number_same n a b ha hb same =
    same_from_bits_below n a b ha hb (λ i h. digit_same (bit_at a i) (bit_at b i) (bit_at-lt a i) (bit_at-lt b i) (same i h))

-- so a number of n digits is the number of the test on its digits
pub number-digits : (n a : ℕ) → a < 2 ^ n → (f : ℕ → Bool) → ((i : ℕ) → i < n → is_one a i ≡ f i) → a ≡ number f n
number-digits n a h f same = number_same n a (number f n) h (number-lt f n) (λ i k. same i k ∙ sym (number-is_one f n i k))

pub number-same : (f g : ℕ → Bool) (n : ℕ) → ((i : ℕ) → i < n → f i ≡ g i) → number f n ≡ number g n
number-same f g n same = number-digits n (number f n) (number-lt f n) g (λ i h. number-is_one f n i h ∙ same i h)
