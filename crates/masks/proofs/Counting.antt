-- How many numbers pass a test, and the ones of a number: as many as digits of it are 1.
use Rattle.std.proofs.Common.{◌≡◌, ℕ, zero, suc, ◌+◌, ◌*◌, ◌/◌, ◌%◌, ◌^◌, ◌<◌, ◌≤◌, Bool, true, false, cond, eqb, refl, sym, ap, ap₂, subst, ◌∙◌, arith}
use Rattle.std.proofs.lemmas.Nat.{pow_pos, shr_split, shr_below, mod_below, ones_cat}
use Rattle.std.proofs.lemmas.Nat.Bits.{bit_at_cat_low}
use lib.Count.{ones, ones-le}
use Rattle.masks.specs.Masks.{how_many}
use Rattle.masks.proofs.Digits.{is_one}

pub how_many-same : (f g : ℕ → Bool) (n : ℕ) → ((i : ℕ) → i < n → f i ≡ g i) → how_many f n ≡ how_many g n
unfolding how_many
how_many-same f g zero same = refl
how_many-same f g (suc n) same =
    ap₂ (λ (k : ℕ) (b : Bool). k + cond b 1 0) (how_many-same f g n (λ i h. same i (omega (arith, h)))) (same n (omega arith))

pub how_many-le : (f : ℕ → Bool) (n : ℕ) → how_many f n ≤ n
unfolding how_many
how_many-le f zero = omega arith
how_many-le f (suc n) = by (f n) (how_many-le f n)
  where
    by : (b : Bool) → how_many f n ≤ n → how_many f n + cond b 1 0 ≤ suc n
    by true h = omega (arith, h)
    by false h = omega (arith, h)

-- those below m, and those from m on
pub how_many-add : (f : ℕ → Bool) (m n : ℕ) → how_many f (m + n) ≡ how_many f m + how_many (λ i. f (m + i)) n
unfolding how_many
how_many-add f m zero = let e : m + 0 ≡ m = omega arith in ap (how_many f) e ∙ omega arith
how_many-add f m (suc n) =
    let e : m + suc n ≡ suc (m + n) = omega arith in
    let k = how_many-add f m n in
    ap (how_many f) e ∙ omega (arith, k)

-- three tests of which exactly one holds of each number below n that passes a fourth, and none of the others
pub how_many-one_of :
    (f g h k : ℕ → Bool) (n : ℕ) → ((i : ℕ) → i < n → cond (f i) 1 0 + cond (g i) 1 0 + cond (h i) 1 0 ≡ cond (k i) 1 0)
    → how_many f n + how_many g n + how_many h n ≡ how_many k n
unfolding how_many
how_many-one_of f g h k zero one = refl
how_many-one_of f g h k (suc n) one = omega (arith, how_many-one_of f g h k n (λ i j. one i (omega (arith, j))), one n (omega arith))

-- a test that all pass
pub how_many-all : (f : ℕ → Bool) (n : ℕ) → ((i : ℕ) → i < n → f i ≡ true) → how_many f n ≡ n
unfolding how_many
how_many-all f zero all = refl
how_many-all f (suc n) all =
    let rest = how_many-all f n (λ i h. all i (omega (arith, h))) in
    ap (λ (b : Bool). how_many f n + cond b 1 0) (all n (omega arith)) ∙ omega (arith, rest)

one_digit : (a : ℕ) → a < 2 → ones a ≡ cond (eqb (a % 2) 1) 1 0
unfolding ones
one_digit zero h = refl
one_digit (suc zero) h = refl
one_digit (suc (suc a)) h = absurd (omega (arith, h))

-- the library's count of ones is how many digits are 1
pub ones-how_many : (k n : ℕ) → n < 2 ^ k → ones n ≡ how_many (is_one n) k
unfolding how_many
ones-how_many zero n h = let few = ones-le 0 n h in omega (arith, few)
ones-how_many (suc k) n h =
    let low : ℕ = n % 2 ^ k in
    let high : ℕ = n / 2 ^ k in
    let within : low < 2 ^ k = mod_below n (2 ^ k) (pow_pos k) in
    let split : high * 2 ^ k + low ≡ n = shr_split n k in
    let one : 1 + k ≡ suc k = omega arith in
    let small : high < 2 = omega (arith, shr_below n 1 k (subst (λ (j : ℕ). n < 2 ^ j) (sym one) h)) in
    let last : ones high ≡ cond (is_one n k) 1 0 = one_digit high small in
    let rest : how_many (is_one low) k ≡ how_many (is_one n) k =
    how_many-same (is_one low) (is_one n) k
    (λ i j. sym (ap (λ (b : ℕ). eqb b 1) (bit_at_cat_low high k low i j)) ∙ ap (λ (m : ℕ). is_one m i) split) in
    ap ones (sym split) ∙ ones_cat k high low within ∙ omega (arith, last, ones-how_many k low within, rest)
