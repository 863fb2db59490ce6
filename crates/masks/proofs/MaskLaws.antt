-- Laws of four masks: their bits, that they are those of the test on their bits, a bit set, and how many are.
use Rattle.std.proofs.Common.{◌≡◌, ℕ, zero, suc, ◌+◌, ◌*◌, ◌/◌, ◌%◌, ◌^◌, ◌<◌, Bool, List, [], ◌∷◌, length, get_or, sym, ap, ap₂, ◌∙◌, arith, lit<}
use lib.Count.{ones}
use Rattle.masks.specs.Masks.{is_set, masks_of, how_many}
use Rattle.masks.proofs.Digits.{is_one, number-lt, number-is_one, number-same, number-digits}
use Rattle.masks.proofs.Counting.{how_many-same, how_many-add, ones-how_many}

-- four masks of 64 bits
pub record Masks (masks : List ℕ) : Type 0 where
  pub four : length masks ≡ 4
  pub small : (j : ℕ) → get_or masks j 0 < 2 ^ 64

-- where the bit of a page lies
pub place : (page : ℕ) → 64 * (page / 64) + page % 64 ≡ page
place page = omega arith

pub is_set-at : (masks : List ℕ) (j i : ℕ) → i < 64 → is_set masks (64 * j + i) ≡ is_one (get_or masks j 0) i
unfolding is_set
is_set-at masks j i h =
    let row : (64 * j + i) / 64 ≡ j = omega (arith, h) in
    let column : (64 * j + i) % 64 ≡ i = omega (arith, h) in
    ap₂ (λ (r k : ℕ). is_one (get_or masks r 0) k) row column

-- the masks of a test have a page's bit set exactly where the test holds of it
pub masks_of-is_set : (f : ℕ → Bool) (page : ℕ) → page < 256 → is_set (masks_of f) page ≡ f page
unfolding masks_of
masks_of-is_set f page h =
    let i : ℕ = page % 64 in
    ap (is_set (masks_of f)) (sym (place page)) ∙ is_set-at (masks_of f) (page / 64) i (omega arith)
    ∙ row (page / 64) (omega (arith, h)) i (omega arith) ∙ ap f (place page)
  where
    row : (j : ℕ) → j < 4 → (i : ℕ) → i < 64 → is_one (get_or (masks_of f) j 0) i ≡ f (64 * j + i)
    row zero k i l = let e : i ≡ 64 * 0 + i = omega arith in number-is_one f 64 i l ∙ ap f e
    row (suc zero) k i l = number-is_one (λ n. f (64 + n)) 64 i l
    row (suc (suc zero)) k i l = number-is_one (λ n. f (128 + n)) 64 i l
    row (suc (suc (suc zero))) k i l = number-is_one (λ n. f (192 + n)) 64 i l
    row (suc (suc (suc (suc j)))) k i l = absurd (omega (arith, k))

-- and are masks of 64 bits
pub masks_of-small : (f : ℕ → Bool) (j : ℕ) → get_or (masks_of f) j 0 < 2 ^ 64
unfolding masks_of
masks_of-small f zero = number-lt f 64
masks_of-small f (suc zero) = number-lt (λ i. f (64 + i)) 64
masks_of-small f (suc (suc zero)) = number-lt (λ i. f (128 + i)) 64
masks_of-small f (suc (suc (suc zero))) = number-lt (λ i. f (192 + i)) 64
masks_of-small f (suc (suc (suc (suc j)))) = lit< tt

-- tests that agree on every page have the same masks
pub masks_of-same : (f g : ℕ → Bool) → ((page : ℕ) → page < 256 → f page ≡ g page) → masks_of f ≡ masks_of g
unfolding masks_of
masks_of-same f g same =
    let a = number-same f g 64 (λ i h. same i (omega (arith, h))) in
    let b = number-same (λ n. f (64 + n)) (λ n. g (64 + n)) 64 (λ i h. same (64 + i) (omega (arith, h))) in
    let c = number-same (λ n. f (128 + n)) (λ n. g (128 + n)) 64 (λ i h. same (128 + i) (omega (arith, h))) in
    let d = number-same (λ n. f (192 + n)) (λ n. g (192 + n)) 64 (λ i h. same (192 + i) (omega (arith, h))) in
    cc

-- four masks are those of the test on their bits
pub masks_of-bits : (masks : List ℕ) → Masks masks → masks ≡ masks_of (is_set masks)
unfolding masks_of
masks_of-bits [] m = absurd (omega (arith, m.four))
masks_of-bits (a ∷ []) m = absurd (omega (arith, m.four))
masks_of-bits (a ∷ b ∷ []) m = absurd (omega (arith, m.four))
masks_of-bits (a ∷ b ∷ c ∷ []) m = absurd (omega (arith, m.four))
masks_of-bits (a ∷ b ∷ c ∷ d ∷ e ∷ l) m = absurd (omega (arith, m.four))
masks_of-bits (a ∷ b ∷ c ∷ d ∷ []) m =
    let l : List ℕ = a ∷ b ∷ c ∷ d ∷ [] in
    let first : (i : ℕ) → i < 64 → is_one a i ≡ is_set l i = λ i h. let e : 64 * 0 + i ≡ i = omega arith in sym (is_set-at l 0 i h) ∙ ap (is_set l) e in
    let p = number-digits 64 a (m.small 0) (is_set l) first in
    let q = number-digits 64 b (m.small 1) (λ n. is_set l (64 + n)) (λ i h. sym (is_set-at l 1 i h)) in
    let r = number-digits 64 c (m.small 2) (λ n. is_set l (128 + n)) (λ i h. sym (is_set-at l 2 i h)) in
    let s = number-digits 64 d (m.small 3) (λ n. is_set l (192 + n)) (λ i h. sym (is_set-at l 3 i h)) in
    cc

-- the ones of four masks are as many as bits are set
pub ones-set :
    (masks : List ℕ) → ((j : ℕ) → get_or masks j 0 < 2 ^ 64)
    → ones (get_or masks 0 0) + ones (get_or masks 1 0) + ones (get_or masks 2 0) + ones (get_or masks 3 0) ≡ how_many (is_set masks) 256
ones-set masks small =
    let f : ℕ → Bool = is_set masks in
    let one : (j : ℕ) → ones (get_or masks j 0) ≡ how_many (λ i. f (64 * j + i)) 64 =
    λ j. ones-how_many 64 (get_or masks j 0) (small j) ∙ how_many-same (is_one (get_or masks j 0)) (λ i. f (64 * j + i)) 64 (λ i h. sym (is_set-at masks j i h)) in
    let first : how_many (λ i. f (64 * 0 + i)) 64 ≡ how_many f 64 =
    how_many-same (λ i. f (64 * 0 + i)) f 64 (λ i h. let e : 64 * 0 + i ≡ i = omega arith in ap f e) in
    let a = how_many-add f 192 64 in
    let b = how_many-add f 128 64 in
    let c = how_many-add f 64 64 in
    omega (arith, one 0, one 1, one 2, one 3, first, a, b, c)

-- as many bits are set in the masks of a test as pages pass it
pub how_many-masks_of : (f : ℕ → Bool) → how_many (is_set (masks_of f)) 256 ≡ how_many f 256
how_many-masks_of f = how_many-same (is_set (masks_of f)) f 256 (masks_of-is_set f)

-- which is how many ones the masks have
pub ones-masks_of :
    (f : ℕ → Bool)
    → ones (get_or (masks_of f) 0 0) + ones (get_or (masks_of f) 1 0) + ones (get_or (masks_of f) 2 0) + ones (get_or (masks_of f) 3 0) ≡ how_many f 256
ones-masks_of f = ones-set (masks_of f) (masks_of-small f) ∙ how_many-masks_of f
