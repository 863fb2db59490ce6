-- Rotations of a number of w binary digits: what the shifts and the `or` of the code give, that each undoes the other, and their range.
use Rattle.std.proofs.Common.{◌≡◌, ℕ, zero, suc, ◌+◌, ◌-◌, ◌*◌, ◌/◌, ◌%◌, ◌^◌, ◌<◌, ◌≤◌, sym, ap, ◌∙◌, subst, ap₂, add-zero, mod-lt, mod-eq_of_lt, add_comm, zero-add, zero-mul, mul-one, div-one, arith, pow_pos, pow-add, shr_lt}
use native.Mathlib.Nat.{mul-mod_left, sub-zero, pow-zero, div-eq_of_lt, mod-one}
use lib.Arith.{digits_lt}
use lib.Pow.{mod-pow-add, shl-shr, split, high, low}
use lib.Bits.{bit_or, or_shifted, or_comm, or_self}
use Rattle.words.specs.Word.{rol, ror}

-- the j lower and k upper digits change places
abbrev turned : ℕ → ℕ → ℕ → ℕ
turned j k x = x % 2 ^ j * 2 ^ k + x / 2 ^ j

module _ (j k w x : ℕ) (e : j + k ≡ w) (h : x < 2 ^ w) where
  upper : x / 2 ^ j < 2 ^ k
  upper = shr_lt k j (subst (λ (v : ℕ). x < 2 ^ v) (sym e ∙ add_comm j k) h)

  shifted : x * 2 ^ k % 2 ^ w ≡ x % 2 ^ j * 2 ^ k
  shifted =
      ap (λ (v : ℕ). x * 2 ^ k % 2 ^ v) (sym e) ∙ mod-pow-add (x * 2 ^ k) j k ∙ simp (shl-shr, mul-mod_left, add-zero)

  turned-or : bit_or (x * 2 ^ k % 2 ^ w) (x / 2 ^ j) ≡ turned j k x
  turned-or = ap (λ (y : ℕ). bit_or y (x / 2 ^ j)) shifted ∙ or_shifted (x % 2 ^ j) k (x / 2 ^ j) upper

  turned_back : turned k j (turned j k x) ≡ x
  turned_back = ap₂ (λ (a b : ℕ). a * 2 ^ j + b) (low (x % 2 ^ j) k upper) (high (x % 2 ^ j) k upper) ∙ split x j

  turned-lt : turned j k x < 2 ^ w
  turned-lt =
      subst (λ (v : ℕ). turned j k x < v) (sym (pow-add 2 j k) ∙ ap (λ (v : ℕ). 2 ^ v) e)
      (digits_lt (mod-lt x (pow_pos j)) upper)

module _ (w n x : ℕ) (le : n ≤ w) (h : x < 2 ^ w) where
  -- the code's shifts
  pub rol-or : bit_or (x * 2 ^ n % 2 ^ w) (x / 2 ^ (w - n)) ≡ rol w n x
  unfolding rol
  rol-or = turned-or (w - n) n w x (omega arith) h

  pub ror-or : bit_or (x / 2 ^ n) (x * 2 ^ (w - n) % 2 ^ w) ≡ ror w n x
  unfolding ror
  ror-or = or_comm (x / 2 ^ n) (x * 2 ^ (w - n) % 2 ^ w) ∙ turned-or n (w - n) w x (omega arith) h

  -- each undoes the other
  pub ror-rol : ror w n (rol w n x) ≡ x
  unfolding rol ror
  ror-rol = turned_back (w - n) n w x (omega arith) h

  pub rol-ror : rol w n (ror w n x) ≡ x
  unfolding rol ror
  rol-ror = turned_back n (w - n) w x (omega arith) h

  -- a rotated number has w digits again
  pub rol-lt : rol w n x < 2 ^ w
  unfolding rol
  rol-lt = turned-lt (w - n) n w x (omega arith) h

  pub ror-lt : ror w n x < 2 ^ w
  unfolding ror
  ror-lt = turned-lt n (w - n) w x (omega arith) h

module _ (w x : ℕ) (h : x < 2 ^ w) where
  -- by no places
  pub rol_none : rol w 0 x ≡ x
  unfolding rol
  rol_none = simp (sub-zero, pow-zero, mul-one, mod-eq_of_lt h, div-eq_of_lt h, add-zero)

  pub ror_none : ror w 0 x ≡ x
  unfolding ror
  ror_none = simp (pow-zero, mod-one, div-one, zero-mul, zero-add)

-- a word as the library rotates it: the other shift goes by the rest modulo 32, which matters by no places alone
module _ (x : ℕ) (h : x < 2 ^ 32) where
  whole : x * 2 ^ 0 % 2 ^ 32 ≡ x
  whole = omega arith

  same : x / 2 ^ 0 ≡ x
  same = omega arith

  rest : (n : ℕ) → suc n < 32 → (32 - suc n) % 32 ≡ 32 - suc n
  rest n l = omega arith

  pub rol-word : (n : ℕ) → n < 32 → bit_or (x * 2 ^ n % 2 ^ 32) (x / 2 ^ ((32 - n) % 32)) ≡ rol 32 n x
  rol-word zero l = ap₂ bit_or whole same ∙ or_self x ∙ sym (rol_none 32 x h)
  rol-word (suc n) l = rw (rest n l) (rol-or 32 (suc n) x (omega arith) h)

  pub ror-word : (n : ℕ) → n < 32 → bit_or (x / 2 ^ n) (x * 2 ^ ((32 - n) % 32) % 2 ^ 32) ≡ ror 32 n x
  ror-word zero l = ap₂ bit_or same whole ∙ or_self x ∙ sym (ror_none 32 x h)
  ror-word (suc n) l = rw (rest n l) (ror-or 32 (suc n) x (omega arith) h)
