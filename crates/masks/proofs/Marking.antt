-- Laws of a page's bit set: what it adds to the masks of a test, and what pages marked in order come to.
use Rattle.std.proofs.Common.{◌≡◌, ℕ, zero, suc, ◌+◌, ◌*◌, ◌/◌, ◌%◌, ◌^◌, ◌<◌, ◌≤◌, ◌⊎◌, inl, inr, Bool, true, false, ◌&&◌, ◌||◌, cond, eqb, ltb, List, length, get_or, set, replicate, refl, sym, ap, ap₂, subst, ◌∙◌, arith, lit<}
use Rattle.std.proofs.lemmas.Bool.{cases_eq, cases_lt, cases_order}
use Rattle.std.proofs.lemmas.List.{get_or-set_same, get_or-set_other, length-set}
use Rattle.std.proofs.lemmas.Nat.{or_lt}
use Rattle.std.proofs.lemmas.Nat.Bits.{bit_at_set_same, bit_at_set_other}
use borrow.Author.Tests.{eq-eqb, ne_eqb, lt-ltb, le-ltb}
use Rattle.std.specs.Int.{w64}
use Rattle.std.specs.Prelude.{bit_or}
use Rattle.masks.specs.Masks.{is_set, masks_of, marked}
use Rattle.masks.proofs.Digits.{is_one, zero_is_one}
use Rattle.masks.proofs.MaskLaws.{Masks, masks_of-is_set, masks_of-same, masks_of-bits}

or_false : (b : Bool) → (b || false) ≡ b
or_false true = refl
or_false false = refl

-- a page's bit written into its mask
module _ (masks : List ℕ) (m : Masks masks) (page : ℕ) (h : page < 256) where
  abbrev written : List ℕ
  written = set masks (page / 64) (bit_or (get_or masks (page / 64) 0) (1 * 2 ^ (page % 64) % 2 ^ 64))

  there : page / 64 < length masks
  there = omega (arith, h, m.four)

  small : (j : ℕ) → get_or written j 0 < 2 ^ 64
  small j = by (cases_eq j (page / 64))
    where
      by : (j ≡ page / 64) ⊎ (j ≡ page / 64 → ⊥) → get_or written j 0 < 2 ^ 64
      by (inl e) =
          let shifted : 1 * 2 ^ (page % 64) % 2 ^ 64 < 2 ^ 64 = omega arith in
          subst (λ (k : ℕ). get_or written k 0 < 2 ^ 64) (sym e)
          (subst (λ (n : ℕ). n < 2 ^ 64) (sym (get_or-set_same masks (page / 64) _ 0 there)) (or_lt 64 _ _ (m.small (page / 64)) shifted))
      by (inr n) = subst (λ (k : ℕ). k < 2 ^ 64) (sym (get_or-set_other masks (page / 64) j _ 0 n)) (m.small j)

  bits : (q : ℕ) → is_set written q ≡ (is_set masks q || eqb q page)
  unfolding is_set
  bits q = by (cases_eq (q / 64) (page / 64)) (cases_eq (q % 64) (page % 64))
    where
      or_true : (b : Bool) → true ≡ (b || true)
      or_true true = refl
      or_true false = refl

      other : (q ≡ page → ⊥) → is_set written q ≡ is_set masks q → is_set written q ≡ (is_set masks q || eqb q page)
      other n e = e ∙ sym (or_false (is_set masks q)) ∙ ap (λ (b : Bool). is_set masks q || b) (sym (ne_eqb q page n))

      in_row : q / 64 ≡ page / 64 → get_or written (q / 64) 0 ≡ bit_or (get_or masks (page / 64) 0) (1 * 2 ^ (page % 64) % 2 ^ 64)
      in_row e = ap (λ (k : ℕ). get_or written k 0) e ∙ get_or-set_same masks (page / 64) _ 0 there

      by : (q / 64 ≡ page / 64) ⊎ (q / 64 ≡ page / 64 → ⊥) → (q % 64 ≡ page % 64) ⊎ (q % 64 ≡ page % 64 → ⊥) → is_set written q ≡ (is_set masks q || eqb q page)
      by (inl r) (inl k) =
          let e : q ≡ page = omega (arith, r, k) in
          ap₂ (λ (n i : ℕ). is_one n i) (in_row r) k
          ∙ ap (λ (n : ℕ). eqb n 1) (bit_at_set_same w64 (get_or masks (page / 64) 0) (page % 64) (omega arith))
          ∙ or_true (is_set masks q) ∙ ap (λ (b : Bool). is_set masks q || b) (sym (eq-eqb q page e))
      by (inl r) (inr k) =
          other (λ e. k (ap (λ (n : ℕ). n % 64) e))
          (ap (λ (n : ℕ). is_one n (q % 64)) (in_row r)
          ∙ ap (λ (n : ℕ). eqb n 1) (bit_at_set_other w64 (get_or masks (page / 64) 0) (page % 64) (omega arith) (q % 64) k)
          ∙ ap (λ (j : ℕ). is_one (get_or masks j 0) (q % 64)) (sym r))
      by (inr r) k =
          other (λ e. r (ap (λ (n : ℕ). n / 64) e)) (ap (λ (n : ℕ). is_one n (q % 64)) (get_or-set_other masks (page / 64) (q / 64) _ 0 r))

  pub written-marked : written ≡ marked masks page
  unfolding marked
  written-marked =
      masks_of-bits written record { four = length-set masks (page / 64) _ ∙ m.four; small = small }
      ∙ masks_of-same (is_set written) (λ q. is_set masks q || eqb q page) (λ q k. bits q)
      ∙ ap (λ (b : Bool). cond b (masks_of (λ q. is_set masks q || eqb q page)) masks) (sym (lt-ltb page 256 h))

-- a page without a bit writes none
pub unmarked : (masks : List ℕ) (page : ℕ) → 256 ≤ page → masks ≡ marked masks page
unfolding marked
unmarked masks page h = ap (λ (b : Bool). cond b (masks_of (λ q. is_set masks q || eqb q page)) masks) (sym (le-ltb page 256 h))

-- marking a page in the masks of a test gives those of the test with the page added
pub marked-masks_of :
    (f g : ℕ → Bool) (page : ℕ) → page < 256 → ((q : ℕ) → q < 256 → (f q || eqb q page) ≡ g q) → marked (masks_of f) page ≡ masks_of g
unfolding marked
marked-masks_of f g page h added =
    ap (λ (b : Bool). cond b (masks_of (λ q. is_set (masks_of f) q || eqb q page)) (masks_of f)) (lt-ltb page 256 h)
    ∙ masks_of-same (λ q. is_set (masks_of f) q || eqb q page) g (λ q k. ap (λ (b : Bool). b || eqb q page) (masks_of-is_set f q k) ∙ added q k)

-- ---- pages marked in order
-- a test on the numbers below n
abbrev pub below : (ℕ → Bool) → ℕ → ℕ → Bool
below f n m = ltb m n && f m

-- at first no bit is set
pub below-none : (f : ℕ → Bool) → replicate {A = ℕ} 4 0 ≡ masks_of (below f 0)
unfolding is_set
below-none f =
    masks_of-bits (replicate 4 0) record { four = refl; small = λ j. subst (λ (m : ℕ). m < 2 ^ 64) (sym (zeros j)) (lit< tt) }
    ∙ masks_of-same (is_set (replicate 4 0)) (below f 0)
    (λ p h.
    ap (λ (m : ℕ). is_one m (p % 64)) (zeros (p / 64)) ∙ zero_is_one (p % 64) ∙ sym (ap (λ (b : Bool). b && f p) (le-ltb p 0 (omega arith))))
  where
    zeros : (j : ℕ) → get_or (replicate {A = ℕ} 4 0) j 0 ≡ 0
    zeros zero = refl
    zeros (suc zero) = refl
    zeros (suc (suc zero)) = refl
    zeros (suc (suc (suc zero))) = refl
    zeros (suc (suc (suc (suc j)))) = refl

module _ (f : ℕ → Bool) (n : ℕ) where
  one_more : (b : Bool) → f n ≡ b → (m : ℕ) → (below f n m || (eqb m n && b)) ≡ below f (n + 1) m
  one_more b e m = by (cases_order m n)
    where
      by : (m ≡ n) ⊎ ((m < n) ⊎ (n < m)) → (below f n m || (eqb m n && b)) ≡ below f (n + 1) m
      by (inl h) =
          ap₂ (λ (x y : Bool). x && f m || (y && b)) (le-ltb m n (omega (arith, h))) (eq-eqb m n h)
          ∙ sym (ap₂ (λ (x y : Bool). x && y) (lt-ltb m (n + 1) (omega (arith, h))) (ap f h ∙ e))
      by (inr (inl h)) =
          let other : eqb m n ≡ false = ne_eqb m n (λ z. absurd (omega (arith, z, h))) in
          ap₂ (λ (x y : Bool). x && f m || (y && b)) (lt-ltb m n h) other ∙ or_false (f m) ∙ sym (ap (λ (x : Bool). x && f m) (lt-ltb m (n + 1) (omega (arith, h))))
      by (inr (inr h)) =
          let other : eqb m n ≡ false = ne_eqb m n (λ z. absurd (omega (arith, z, h))) in
          ap₂ (λ (x y : Bool). x && f m || (y && b)) (le-ltb m n (omega (arith, h))) other ∙ sym (ap (λ (x : Bool). x && f m) (le-ltb m (n + 1) (omega (arith, h))))

  -- a page that passes is marked
  pub below-marked : n < 256 → f n ≡ true → marked (masks_of (below f n)) n ≡ masks_of (below f (n + 1))
  below-marked h e = marked-masks_of (below f n) (below f (n + 1)) n h (λ q k. ap (λ (b : Bool). below f n q || b) (sym (and_true (eqb q n))) ∙ one_more true e q)
    where
      and_true : (b : Bool) → (b && true) ≡ b
      and_true true = refl
      and_true false = refl

  -- and one that does not is not
  pub below-kept : f n ≡ false → masks_of (below f n) ≡ masks_of (below f (n + 1))
  below-kept e =
      masks_of-same (below f n) (below f (n + 1)) (λ q k. sym (or_false (below f n q)) ∙ ap (λ (b : Bool). below f n q || b) (sym (and_false (eqb q n))) ∙ one_more false e q)
    where
      and_false : (b : Bool) → (b && false) ≡ false
      and_false true = refl
      and_false false = refl

  -- where none after them passes they are all
  pub below-all : ((m : ℕ) → n ≤ m → f m ≡ false) → masks_of (below f n) ≡ masks_of f
  below-all none = masks_of-same (below f n) f (λ q k. by q (cases_lt q n))
    where
      by : (q : ℕ) → (q < n) ⊎ (n ≤ q) → below f n q ≡ f q
      by q (inl h) = ap (λ (b : Bool). b && f q) (lt-ltb q n h)
      by q (inr h) = ap (λ (b : Bool). b && f q) (le-ltb q n h) ∙ sym (none q h)
