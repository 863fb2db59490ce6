-- Laws of the next page that passes a test: which it is, and how the search of a mask finds it.
use Rattle.std.proofs.Common.{◌≡◌, ℕ, zero, suc, ◌+◌, ◌-◌, ◌*◌, ◌/◌, ◌%◌, ◌^◌, ◌<◌, ◌≤◌, ◌⊎◌, inl, inr, Bool, true, false, cond, eqb, Option, Some, None, List, get_or, refl, sym, ap, ap₂, subst, ◌∙◌, arith}
use Rattle.std.proofs.lemmas.Bool.{cases_lt}
use Rattle.std.proofs.lemmas.Nat.{shr-shr, shr_le}
use Rattle.std.proofs.lemmas.Nat.Bits.{bit_at_above, bit_at-trailing_zeros}
use borrow.Author.Tests.{eq-eqb}
use Rattle.std.specs.Int.{bit_at, trailing_zeros, w64}
use Rattle.masks.specs.Masks.{is_set, first, next_of}
use Rattle.masks.proofs.Digits.{is_one, zero_is_one}
use Rattle.masks.proofs.MaskLaws.{is_set-at}

-- numbers that do not pass are passed over
first-skip : (f : ℕ → Bool) (m j n : ℕ) → ((i : ℕ) → i < j → f (m + i) ≡ false) → first f m (j + n) ≡ first f (m + j) n
unfolding first
first-skip f m zero n none =
    let a : 0 + n ≡ n = omega arith in
    let b : m ≡ m + 0 = omega arith in
    ap (first f m) a ∙ ap (λ (k : ℕ). first f k n) b
first-skip f m (suc j) n none =
    let a : suc j + n ≡ suc (j + n) = omega arith in
    let b : suc m + j ≡ m + suc j = omega arith in
    let c : m + 0 ≡ m = omega arith in
    ap (first f m) a
    ∙ ap (λ (t : Bool). cond t (Some m) (first f (suc m) (j + n))) (sym (ap f c) ∙ none 0 (omega arith))
    ∙ first-skip f (suc m) j n (λ i h. let e : suc m + i ≡ m + suc i = omega arith in ap f e ∙ none (suc i) (omega (arith, h)))
    ∙ ap (λ (k : ℕ). first f k n) b

-- tests that agree on every page have the same next page
first-same : (f g : ℕ → Bool) (m n : ℕ) → ((i : ℕ) → i < m + n → f i ≡ g i) → first f m n ≡ first g m n
unfolding first
first-same f g m zero same = refl
first-same f g m (suc n) same =
    ap₂ (λ (b : Bool) (r : Option ℕ). cond b (Some m) r) (same m (omega arith)) (first-same f g (suc m) n (λ i h. same i (omega (arith, h))))

pub next_of-same : (f g : ℕ → Bool) → ((i : ℕ) → i < 256 → f i ≡ g i) → (from : ℕ) → next_of f from ≡ next_of g from
unfolding next_of first
next_of-same f g same from = by (cases_lt from 256)
  where
    by : (from < 256) ⊎ (256 ≤ from) → next_of f from ≡ next_of g from
    by (inl h) = first-same f g from (256 - from) (λ i k. same i (omega (arith, h, k)))
    by (inr h) = let left : 256 - from ≡ 0 = omega (arith, h) in ap (first f from) left ∙ sym (ap (first g from) left)

module _ (f : ℕ → Bool) (page : ℕ) where
  -- pages that do not pass are passed over
  pub next_of-skip : (j : ℕ) → page + j ≤ 256 → ((i : ℕ) → i < j → f (page + i) ≡ false) → next_of f page ≡ next_of f (page + j)
  unfolding next_of
  next_of-skip j h none =
      let left : 256 - page ≡ j + (256 - (page + j)) = omega (arith, h) in
      ap (first f page) left ∙ first-skip f page j (256 - (page + j)) none

  -- a page that passes is its own next
  pub next_of-here : page < 256 → f page ≡ true → next_of f page ≡ Some page
  unfolding next_of first
  next_of-here h e =
      let left : 256 - page ≡ suc (255 - page) = omega (arith, h) in
      ap (first f page) left ∙ ap (λ (t : Bool). cond t (Some page) (first f (suc page) (255 - page))) e

  -- from 256 on there is none
  pub next_of-end : 256 ≤ page → next_of f page ≡ None
  unfolding next_of first
  next_of-end h = let left : 256 - page ≡ 0 = omega (arith, h) in ap (first f page) left

-- what it is to be the next page that passes, from a given one on
pub record IsNext (f : ℕ → Bool) (from page : ℕ) : Type 0 where
  pub later : from ≤ page
  pub there : page < 256
  pub passes : f page ≡ true
  pub none_before : (q : ℕ) → from ≤ q → q < page → f q ≡ false

-- no page from a given one on passes
abbrev pub NoNext : (ℕ → Bool) → ℕ → Type 0
NoNext f from = (q : ℕ) → from ≤ q → q < 256 → f q ≡ false

-- which the first of n numbers that passes is
abbrev FirstIs : (ℕ → Bool) → ℕ → ℕ → Option ℕ → Type 0
FirstIs f m n None = (q : ℕ) → m ≤ q → q < m + n → f q ≡ false
FirstIs f m n (Some p) = (m ≤ p) × (p < m + n) × (f p ≡ true) × ((q : ℕ) → m ≤ q → q < p → f q ≡ false)

module _ (f : ℕ → Bool) where
  first_is : (m n : ℕ) → FirstIs f m n (first f m n)
  unfolding first
  first_is m zero = λ q h k. absurd (omega (arith, h, k))
  first_is m (suc n) = by (f m) refl (first f (suc m) n) (first_is (suc m) n)
    where
      here : (q : ℕ) → m ≤ q → f m ≡ false → (suc m ≤ q → f q ≡ false) → f q ≡ false
      here q h e rest = at (cases_lt m q)
        where
          at : (m < q) ⊎ (q ≤ m) → f q ≡ false
          at (inl k) = rest (omega (arith, k))
          at (inr k) = let same : q ≡ m = omega (arith, h, k) in ap f same ∙ e

      by : (b : Bool) → f m ≡ b → (r : Option ℕ) → FirstIs f (suc m) n r → FirstIs f m (suc n) (cond b (Some m) r)
      by true e r h = (omega arith, omega arith, e, λ q j k. absurd (omega (arith, j, k)))
      by false e None h = λ q j k. here q j e (λ l. h q l (omega (arith, k)))
      by false e (Some p) h = (omega (arith, h.0), omega (arith, h.1), h.2, λ q j k. here q j e (λ l. h.3 q l k))

  -- the next page that passes is given exactly where it is that
  pub next_is : (from page : ℕ) → (next_of f from ≡ Some page → IsNext f from page) × (IsNext f from page → next_of f from ≡ Some page)
  unfolding next_of
  next_is from page = (
    λ e.
        let h : FirstIs f from (256 - from) (Some page) = subst (FirstIs f from (256 - from)) e (first_is from (256 - from)) in
        record { later = h.0; there = omega (arith, h.0, h.1); passes = h.2; none_before = h.3 },
    λ n.
        let gap : from + (page - from) ≡ page = omega (arith, n.later) in
        next_of-skip f from (page - from) (omega (arith, n.later, n.there)) (λ i k. n.none_before (from + i) (omega arith) (omega (arith, k)))
        ∙ ap (next_of f) gap ∙ next_of-here f page n.there n.passes,
  )

  -- and none exactly where there is none
  pub next_none : (from : ℕ) → (next_of f from ≡ None → NoNext f from) × (NoNext f from → next_of f from ≡ None)
  unfolding next_of
  next_none from = (
    λ e.
        let h : FirstIs f from (256 - from) None = subst (FirstIs f from (256 - from)) e (first_is from (256 - from)) in
        λ q j k. h q j (omega (arith, j, k)),
    λ none. by (cases_lt 256 from) none,
  )
    where
      by : (256 < from) ⊎ (from ≤ 256) → NoNext f from → next_of f from ≡ None
      by (inl h) none = next_of-end f from (omega (arith, h))
      by (inr h) none =
          let gap : from + (256 - from) ≡ 256 = omega (arith, h) in
          next_of-skip f from (256 - from) (omega (arith, gap)) (λ i k. none (from + i) (omega arith) (omega (arith, k)))
          ∙ ap (next_of f) gap ∙ next_of-end f 256 (omega arith)

-- the rest of a page's mask, from its bit on
module _ (masks : List ℕ) (small : (j : ℕ) → get_or masks j 0 < 2 ^ 64) (page : ℕ) where
  abbrev rest : ℕ
  rest = get_or masks (page / 64) 0 / 2 ^ (page % 64)

  -- has the bits of the pages from that one on
  rest-is_one : (i : ℕ) → page % 64 + i < 64 → is_one rest i ≡ is_set masks (page + i)
  rest-is_one i h =
      let at : 64 * (page / 64) + (page % 64 + i) ≡ page + i = omega arith in
      ap (λ (n : ℕ). eqb (n % 2) 1) (shr-shr (get_or masks (page / 64) 0) (page % 64) i)
      ∙ sym (is_set-at masks (page / 64) (page % 64 + i) h) ∙ ap (is_set masks) at

  -- where it is 0 the pages up to the next mask's are passed over
  pub rest_none : page < 256 → rest ≡ 0 → next_of (is_set masks) page ≡ next_of (is_set masks) (64 * (page / 64 + 1))
  rest_none h e =
      let gap : page + (64 - page % 64) ≡ 64 * (page / 64 + 1) = omega arith in
      next_of-skip (is_set masks) page (64 - page % 64) (omega (arith, h, gap))
      (λ i k. sym (rest-is_one i (omega (arith, k))) ∙ ap (λ (n : ℕ). is_one n i) e ∙ zero_is_one i)
      ∙ ap (next_of (is_set masks)) gap

  -- and else its lowest 1 is the next page's
  pub rest_some : page < 256 → 0 < rest → next_of (is_set masks) page ≡ Some (page + trailing_zeros w64 rest)
  rest_some h some =
      let m : ℕ = get_or masks (page / 64) 0 in
      let k : ℕ = trailing_zeros w64 rest in
      let below : rest < 2 ^ 64 = omega (arith, shr_le m (page % 64), small (page / 64)) in
      let lowest = bit_at-trailing_zeros w64 rest some below in
      let digit : bit_at m (page % 64 + k) ≡ 1 = sym (ap (λ (n : ℕ). n % 2) (shr-shr m (page % 64) k)) ∙ lowest.1 in
      let within : page % 64 + k < 64 = inside m k digit (cases_lt (page % 64 + k) 64) in
      next_of-skip (is_set masks) page k (omega (arith, h, within))
      (λ i j. sym (rest-is_one i (omega (arith, j, within))) ∙ ap (λ (n : ℕ). eqb n 1) (lowest.2 i j))
      ∙ next_of-here (is_set masks) (page + k) (omega (arith, h, within)) (sym (rest-is_one k within) ∙ eq-eqb _ _ lowest.1)
    where
      inside : (m k : ℕ) → bit_at (get_or masks (page / 64) 0) (page % 64 + k) ≡ 1 → (page % 64 + k < 64) ⊎ (64 ≤ page % 64 + k) → page % 64 + k < 64
      inside m k e (inl l) = l
      inside m k e (inr l) = absurd (let z = bit_at_above (get_or masks (page / 64) 0) 64 (page % 64 + k) (small (page / 64)) l in omega (arith, e, z))
