-- Products of bytes by doubling: the paper's product and long division, taken one digit of the first factor at a time.
use mathlib.Core.Path.{◌≡◌, refl, sym, ap, ap₂, ◌∙◌, subst, subst⁻¹}
use Prim.Native.Nat.{ℕ, zero, suc, ◌+◌, ◌*◌, ◌/◌, ◌%◌, ◌^◌, ◌<◌, ◌≤◌}
use native.Mathlib.Nat.{mod-lt, mod-eq_of_lt, div-eq_of_lt, lt_of_lt_of_le, pow-suc, div-lt_iff_lt-mul, zero-lt-suc, add_comm, add-suc, mul_assoc, mul_comm}
use native.Mathlib.Omega.{arith}
use lib.Arith.{lt-one}
use lib.Bits.{bit_xor, xor_lt, xor_self, xor_zero_r, xor_shr, xor_mod}
use lib.Dec.{lit<}
use lib.Pow.{pow_mono, pow_pos, shl-shr, shr-shr, shr_lt, split}
use Rattle.words.proofs.Xor.{xor_exchange, xor_double}
use Rattle.field.specs.Field.{scale, product, remainder, mul}

-- ---- digits
scale-xor : (d e w : ℕ) → d < 2 → e < 2 → scale (bit_xor d e) w ≡ bit_xor (scale d w) (scale e w)
scale-xor zero e w hd he = refl
scale-xor (suc zero) zero w hd he = sym (xor_zero_r w)
scale-xor (suc zero) (suc zero) w hd he = sym (xor_self w)
scale-xor (suc zero) (suc (suc e)) w hd he = absurd (omega arith)
scale-xor (suc (suc d)) e w hd he = absurd (omega arith)

scale_double : (d w : ℕ) → 2 * scale d w ≡ scale d (2 * w)
scale_double zero w = refl
scale_double (suc d) w = refl

doubled : (v k : ℕ) → v * (k * 2) ≡ 2 * (v * k)
doubled v k = sym (mul_assoc v k 2) ∙ mul_comm (v * k) 2

-- digit 9 + m of 2 c is digit 8 + m of c
halved : (m c : ℕ) → 2 * c / 2 ^ (8 + suc m) ≡ c / 2 ^ (8 + m)
halved m c =
    ap₂ (λ (x k : ℕ). x / 2 ^ k) (mul_comm 2 c) (omega arith) ∙ sym (shr-shr (c * 2 ^ 1) 1 (8 + m))
    ∙ ap (λ (x : ℕ). x / 2 ^ (8 + m)) (shl-shr c 1)

scale-lt : (d w n : ℕ) → 0 < n → w < n → scale d w < n
scale-lt zero w n p h = p
scale-lt (suc d) w n p h = h

digit_lt : (n : ℕ) → n % 2 < 2
digit_lt n = mod-lt n (zero-lt-suc 1)

-- one digit more
wider : (n : ℕ) → 2 ^ (8 + suc n) ≡ 2 ^ (8 + n) * 2
wider n = ap (λ (k : ℕ). 2 ^ k) (add-suc 8 n) ∙ pow-suc 2 (8 + n)

pub half_lt : (n a : ℕ) → a < 2 ^ suc n → a / 2 < 2 ^ n
half_lt n a h = (div-lt_iff_lt-mul (zero-lt-suc 1)).1 (subst (λ (x : ℕ). a < x) (pow-suc 2 n) h)

-- x times b modulo v
unfoldable pub twice : ℕ → ℕ → ℕ
twice v b = bit_xor (2 * b) (scale (b / 128) v)

-- the product by Horner's rule: a0 b + x (a1 b + x (..))
unfoldable horner : ℕ → ℕ → ℕ → ℕ → ℕ
horner v zero a b = 0
horner v (suc n) a b = bit_xor (scale (a % 2) b) (twice v (horner v n (a / 2) b))

product-lt : (n a b : ℕ) → b < 256 → product (suc n) a b < 2 ^ (8 + n)
unfolding product
product-lt zero a b h = xor_lt 8 (scale (a % 2) b) 0 (scale-lt (a % 2) b 256 (lit< tt) h) (lit< tt)
product-lt (suc n) a b h =
    let rest : 2 * product (suc n) (a / 2) b < 2 ^ (8 + suc n) = rw (wider n) (omega (arith, product-lt n (a / 2) b h)) in
    let room : 256 ≤ 2 ^ (8 + suc n) = pow_mono {i = 8} {j = 8 + suc n} (omega arith) in
    xor_lt (8 + suc n) (scale (a % 2) b) (2 * product (suc n) (a / 2) b)
    (scale-lt (a % 2) b (2 ^ (8 + suc n)) (omega arith) (omega arith)) rest

-- nothing times b
pub mul-zero : (v b : ℕ) → mul v 0 b ≡ 0
unfolding mul product remainder
mul-zero v b = refl

module _ (v : ℕ) (lo : 256 ≤ v) (hi : v < 512) where
  -- ---- long division
  -- the step that clears digit 8 + m of c
  abbrev step : ℕ → ℕ → ℕ
  step m c = bit_xor c (scale (c / 2 ^ (8 + m) % 2) (v * 2 ^ m))

  -- v has degree 8
  leading : (m d : ℕ) → d < 2 → scale d (v * 2 ^ m) / 2 ^ (8 + m) ≡ d
  leading m zero h = div-eq_of_lt (pow_pos (8 + m))
  leading m (suc zero) h =
      ap (λ (n : ℕ). v * 2 ^ m / 2 ^ n) (add_comm 8 m) ∙ sym (shr-shr (v * 2 ^ m) m 8) ∙ ap (λ (x : ℕ). x / 2 ^ 8) (shl-shr v m)
      ∙ omega arith
  leading m (suc (suc d)) h = absurd (omega arith)

  clears : (m c : ℕ) → c < 2 ^ (8 + suc m) → step m c < 2 ^ (8 + m)
  clears m c h =
      let k : ℕ = 8 + m in
      let top : c / 2 ^ k < 2 = shr_lt 1 k (subst (λ (n : ℕ). c < 2 ^ n) (omega arith) h) in
      let same : c / 2 ^ k % 2 ≡ c / 2 ^ k = mod-eq_of_lt top in
      let gone : step m c / 2 ^ k ≡ 0 =
      ap (λ (d : ℕ). bit_xor c (scale d (v * 2 ^ m)) / 2 ^ k) same
      ∙ xor_shr c (scale (c / 2 ^ k) (v * 2 ^ m)) k
      ∙ ap (bit_xor (c / 2 ^ k)) (leading m (c / 2 ^ k) top)
      ∙ xor_self (c / 2 ^ k) in
      subst (λ (x : ℕ). x < 2 ^ k) (split (step m c) k) (rw gone (omega (arith, mod-lt (step m c) (pow_pos k))))

  remainder-xor : (n x y : ℕ) → remainder v n (bit_xor x y) ≡ bit_xor (remainder v n x) (remainder v n y)
  unfolding remainder
  remainder-xor zero x y = refl
  remainder-xor (suc n) x y =
      let w : ℕ = v * 2 ^ n in
      let digit : bit_xor x y / 2 ^ (8 + n) % 2 ≡ bit_xor (x / 2 ^ (8 + n) % 2) (y / 2 ^ (8 + n) % 2) =
      ap (λ (q : ℕ). q % 2) (xor_shr x y (8 + n)) ∙ xor_mod (x / 2 ^ (8 + n)) (y / 2 ^ (8 + n)) 1 in
      let sum : step n (bit_xor x y) ≡ bit_xor (step n x) (step n y) =
      ap (λ (d : ℕ). bit_xor (bit_xor x y) (scale d w)) digit
      ∙ ap (bit_xor (bit_xor x y)) (scale-xor (x / 2 ^ (8 + n) % 2) (y / 2 ^ (8 + n) % 2) w (digit_lt _) (digit_lt _))
      ∙ xor_exchange x y (scale (x / 2 ^ (8 + n) % 2) w) (scale (y / 2 ^ (8 + n) % 2) w) in
      ap (remainder v n) sum ∙ remainder-xor n (step n x) (step n y)

  remainder_small : (n c : ℕ) → c < 256 → remainder v n c ≡ c
  unfolding remainder
  remainder_small zero c h = refl
  remainder_small (suc n) c h =
      let none : c / 2 ^ (8 + n) ≡ 0 = div-eq_of_lt (lt_of_lt_of_le h (pow_mono {i = 8} {j = 8 + n} (omega arith))) in
      ap (λ (q : ℕ). remainder v n (bit_xor c (scale (q % 2) (v * 2 ^ n)))) none
      ∙ ap (remainder v n) (xor_zero_r c) ∙ remainder_small n c h

  -- one step is a doubling
  step-twice : (c : ℕ) → c < 256 → step 0 (2 * c) ≡ twice v c
  unfolding twice
  step-twice c h =
      let digit : 2 * c / 256 % 2 ≡ c / 128 = omega arith in
      let whole : v * 2 ^ 0 ≡ v = omega arith in
      rw (digit, whole)

  -- to double and divide is to divide and double
  remainder_double : (n c : ℕ) → c < 2 ^ (8 + n) → remainder v (suc n) (2 * c) ≡ twice v (remainder v n c)
  unfolding remainder
  remainder_double zero c h = step-twice c h
  remainder_double (suc m) c h =
      let digit : 2 * c / 2 ^ (8 + suc m) ≡ c / 2 ^ (8 + m) = halved m c in
      let d : ℕ = c / 2 ^ (8 + m) % 2 in
      let higher : v * 2 ^ suc m ≡ 2 * (v * 2 ^ m) = ap (λ (x : ℕ). v * x) (pow-suc 2 m) ∙ doubled v (2 ^ m) in
      let moved : step (suc m) (2 * c) ≡ 2 * step m c =
      ap₂ (λ (q w : ℕ). bit_xor (2 * c) (scale (q % 2) w)) digit higher
      ∙ ap (bit_xor (2 * c)) (sym (scale_double d (v * 2 ^ m))) ∙ sym (xor_double c (scale d (v * 2 ^ m))) in
      ap (remainder v (suc m)) moved ∙ remainder_double m (step m c) (clears m c h)

  -- ---- Horner's rule
  is_horner : (n a b : ℕ) → b < 256 → remainder v n (product (suc n) a b) ≡ horner v (suc n) a b
  unfolding remainder product horner twice
  is_horner zero a b h = refl
  is_horner (suc n) a b h =
      let p : ℕ = product (suc n) (a / 2) b in
      remainder-xor (suc n) (scale (a % 2) b) (2 * p)
      ∙ ap₂ bit_xor (remainder_small (suc n) (scale (a % 2) b) (scale-lt (a % 2) b 256 (lit< tt) h))
      (remainder_double n p (product-lt n (a / 2) b h) ∙ ap (twice v) (is_horner n (a / 2) b h))

  pub twice-lt : (b : ℕ) → b < 256 → twice v b < 256
  twice-lt b h = subst (λ (x : ℕ). x < 256) (step-twice b h) (clears 0 (2 * b) (omega arith))

  twice-xor : (x y : ℕ) → x < 256 → y < 256 → twice v (bit_xor x y) ≡ bit_xor (twice v x) (twice v y)
  unfolding twice
  twice-xor x y hx hy =
      ap₂ bit_xor (xor_double x y)
      (ap (λ (d : ℕ). scale d v) (xor_shr x y 7) ∙ scale-xor (x / 128) (y / 128) v (omega arith) (omega arith))
      ∙ xor_exchange (2 * x) (2 * y) (scale (x / 128) v) (scale (y / 128) v)

  horner-lt : (n a b : ℕ) → b < 256 → horner v n a b < 256
  unfolding horner
  horner-lt zero a b h = lit< tt
  horner-lt (suc n) a b h =
      xor_lt 8 (scale (a % 2) b) (twice v (horner v n (a / 2) b)) (scale-lt (a % 2) b 256 (lit< tt) h)
      (twice-lt (horner v n (a / 2) b) (horner-lt n (a / 2) b h))

  scale-twice : (d b : ℕ) → twice v (scale d b) ≡ scale d (twice v b)
  unfolding twice
  scale-twice zero b = refl
  scale-twice (suc d) b = refl

  -- to double the product is to double the second factor
  horner-twice : (n a b : ℕ) → b < 256 → twice v (horner v n a b) ≡ horner v n a (twice v b)
  unfolding horner
  horner-twice zero a b h = scale-twice 0 0
  horner-twice (suc n) a b h =
      twice-xor (scale (a % 2) b) (twice v (horner v n (a / 2) b)) (scale-lt (a % 2) b 256 (lit< tt) h)
      (twice-lt (horner v n (a / 2) b) (horner-lt n (a / 2) b h))
      ∙ ap₂ bit_xor (scale-twice (a % 2) b) (ap (twice v) (horner-twice n (a / 2) b h))

  -- a digit more changes nothing
  horner_more : (n a b : ℕ) → a < 2 ^ n → horner v (suc n) a b ≡ horner v n a b
  unfolding horner twice
  horner_more zero a b h = ap (λ (x : ℕ). horner v 1 x b) (lt-one h)
  horner_more (suc n) a b h = ap (λ (x : ℕ). bit_xor (scale (a % 2) b) (twice v x)) (horner_more n (a / 2) b (half_lt n a h))

  -- ---- what the loop goes by
  -- the lowest digit of a, and the rest of a with b doubled
  pub mul_step : (a b : ℕ) → a < 256 → b < 256 → mul v a b ≡ bit_xor (scale (a % 2) b) (mul v (a / 2) (twice v b))
  unfolding mul horner
  mul_step a b ha hb =
      is_horner 7 a b hb
      ∙ ap (bit_xor (scale (a % 2) b))
      (horner-twice 7 (a / 2) b hb ∙ sym (horner_more 7 (a / 2) (twice v b) (half_lt 7 a ha))
      ∙ sym (is_horner 7 (a / 2) (twice v b) (twice-lt b hb)))

  -- x times b
  pub mul_two : (b : ℕ) → b < 256 → mul v 2 b ≡ twice v b
  mul_two b h =
      mul_step 2 b (lit< tt) h ∙ mul_step 1 (twice v b) (lit< tt) (twice-lt b h)
      ∙ ap (bit_xor (twice v b)) (mul-zero v (twice v (twice v b))) ∙ xor_zero_r (twice v b)

  pub mul-lt : (a b : ℕ) → b < 256 → mul v a b < 256
  unfolding mul
  mul-lt a b h = subst⁻¹ (λ (x : ℕ). x < 256) (is_horner 7 a b h) (horner-lt 8 a b h)
