-- Laws of lists in slot order.
use Rattle.std.proofs.Common.{◌≡◌, ℕ, zero, suc, ◌+◌, ◌*◌, ◌<◌, List, [], ◌∷◌, ◌++◌, length, take, drop, set, get_or, refl, ap, ap₂, subst, ◌∙◌, arith, append_assoc, length-append}
use lib.Seq.{take_at, drop_at, take-append-add, drop-append-add}
use Rattle.spans.specs.Parts.{splice}
use Rattle.history.specs.Order.{in_order, Each}

module _ {A : Type 0} (P : ℕ → A → Type 0) where
  pub Each-at : (s j k : ℕ) (xs : List A) (d : A) → k ≡ s + j → Each P s xs → j < length xs → P k (get_or xs j d)
  Each-at s j k [] d e h l = absurd (omega (arith, l))
  Each-at s zero k (x ∷ xs) d e h l = let here : s ≡ k = omega (arith, e) in subst (λ (n : ℕ). P n x) here h.0
  Each-at s (suc j) k (x ∷ xs) d e h l = Each-at (suc s) j k xs d (omega (arith, e)) h.1 (omega (arith, l))

  pub Each-set : (s j k : ℕ) (xs : List A) (y : A) → k ≡ s + j → Each P s xs → P k y → Each P s (set xs j y)
  Each-set s j k [] y e h p = tt
  Each-set s zero k (x ∷ xs) y e h p = let here : k ≡ s = omega (arith, e) in (subst (λ (n : ℕ). P n y) here p, h.1)
  Each-set s (suc j) k (x ∷ xs) y e h p = (h.0, Each-set (suc s) j k xs y (omega (arith, e)) h.1 p)

  pub Each-map : (Q : ℕ → A → Type 0) → ((s : ℕ) (x : A) → P s x → Q s x) → (s : ℕ) (xs : List A) → Each P s xs → Each Q s xs
  Each-map Q f s [] h = tt
  Each-map Q f s (x ∷ xs) h = (f s x h.0, Each-map Q f (suc s) xs h.1)

-- slots that are records
module _ {A : Type 0} (f : ℕ → A → List ℕ) where
  abbrev pub Record : ℕ → A → Type 0
  Record s x = length (f s x) ≡ 272

  pub in_order-length : (s : ℕ) (xs : List A) → Each Record s xs → length (in_order f s xs) ≡ 272 * length xs
  unfolding in_order
  in_order-length s [] h = refl
  in_order-length s (x ∷ xs) h = length-append (f s x) (in_order f (suc s) xs) ∙ omega (arith, h.0, in_order-length (suc s) xs h.1)

  pub record-in_order :
      (s j k : ℕ) (xs : List A) (d : A) → k ≡ s + j → Each Record s xs → j < length xs
      → take 272 (drop (272 * j) (in_order f s xs)) ≡ f k (get_or xs j d)
  unfolding in_order
  record-in_order s j k [] d e h l = absurd (omega (arith, l))
  record-in_order s zero k (x ∷ xs) d e h l =
      let here : s ≡ k = omega (arith, e) in take_at (f s x) (in_order f (suc s) xs) 272 h.0 ∙ ap (λ (n : ℕ). f n x) here
  record-in_order s (suc j) k (x ∷ xs) d e h l =
      let on : 272 * suc j ≡ length (f s x) + 272 * j = omega (arith, h.0) in
      ap (λ (n : ℕ). take 272 (drop n (f s x ++ in_order f (suc s) xs))) on
      ∙ ap (take 272) (drop-append-add (f s x) (in_order f (suc s) xs) (272 * j))
      ∙ record-in_order (suc s) j k xs d (omega (arith, e)) h.1 (omega (arith, l))

  pub splice-in_order :
      (s j k : ℕ) (xs : List A) (y : A) → k ≡ s + j → Each Record s xs → Record k y → j < length xs
      → splice (272 * j) (f k y) (in_order f s xs) ≡ in_order f s (set xs j y)
  unfolding in_order splice
  splice-in_order s j k [] y e h r l = absurd (omega (arith, l))
  splice-in_order s zero k (x ∷ xs) y e h r l =
      let here : k ≡ s = omega (arith, e) in
      let one : 272 * 0 + length (f k y) ≡ 272 = omega (arith, r) in
      ap (λ (n : ℕ). f k y ++ drop n (f s x ++ in_order f (suc s) xs)) one
      ∙ ap₂ (λ (n : ℕ) (m : List ℕ). f n y ++ m) here (drop_at (f s x) (in_order f (suc s) xs) 272 h.0)
  splice-in_order s (suc j) k (x ∷ xs) y e h r l =
      let rest : List ℕ = in_order f (suc s) xs in
      let on : 272 * suc j ≡ length (f s x) + 272 * j = omega (arith, h.0) in
      let on' : 272 * suc j + length (f k y) ≡ length (f s x) + (272 * j + length (f k y)) = omega (arith, h.0) in
      ap₂ (λ (a b : List ℕ). a ++ (f k y ++ b)) (ap (λ (n : ℕ). take n (f s x ++ rest)) on ∙ take-append-add (f s x) rest (272 * j))
      (ap (λ (n : ℕ). drop n (f s x ++ rest)) on' ∙ drop-append-add (f s x) rest (272 * j + length (f k y)))
      ∙ append_assoc (f s x) (take (272 * j) rest) (f k y ++ drop (272 * j + length (f k y)) rest)
      ∙ ap (λ (m : List ℕ). f s x ++ m) (splice-in_order (suc s) j k xs y (omega (arith, e)) h.1 r (omega (arith, l)))
