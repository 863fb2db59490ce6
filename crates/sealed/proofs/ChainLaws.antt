-- A loop that goes through a list block by block, each block made from itself and a chaining block: what is done and the rest make the whole.
use Rattle.std.proofs.Common.{◌≡◌, ℕ, zero, suc, ◌+◌, ◌-◌, ◌*◌, ◌<◌, ◌≤◌, List, ◌++◌, length, take, drop, sym, ap, ap₂, ◌∙◌, arith, append_assoc, length-append, length-drop}
use Rattle.std.proofs.lemmas.List.{drop-drop, take-append-drop}
use lib.Seq.{length-take-le}
use Rattle.spans.specs.Parts.{splice}
use Rattle.spans.proofs.PartsLaws.{take-splice, drop-splice}

-- F goes through n blocks of a list after a chaining block: `out` is what becomes of a block, `next` the next chaining block
module _ (F : List ℕ → ℕ → List ℕ → List ℕ) (out next : List ℕ → List ℕ → List ℕ) (none : (c l : List ℕ) → F c 0 l ≡ l)
    (more : (c l : List ℕ) (n : ℕ) → F c (suc n) l ≡ out (take 16 l) c ++ F (next (take 16 l) c) n (drop 16 l)) where
  -- whole blocks keep their length, where each gives a block and a chaining block
  pub through-length :
      ((p c : List ℕ) → length p ≡ 16 → length c ≡ 16 → (length (out p c) ≡ 16) × (length (next p c) ≡ 16))
      → (n : ℕ) (c l : List ℕ) → length c ≡ 16 → 16 * n ≤ length l → length (F c n l) ≡ length l
  through-length wide zero c l hc h = ap length (none c l)
  through-length wide (suc n) c l hc h =
      let p : List ℕ = take 16 l in
      let w = wide p c (length-take-le 16 l (omega (arith, h))) hc in
      ap length (more c l n)
      ∙ length-append (out p c) (F (next p c) n (drop 16 l))
      ∙ omega (arith, w.0, through-length wide n (next p c) (drop 16 l) w.1 (omega (arith, h, length-drop 16 l)), length-drop 16 l)

  -- after i of n turns
  abbrev pub Through : List ℕ → List ℕ → ℕ → ℕ → List ℕ → Type 0
  Through l c n i w = take (16 * i) l ++ F c (n - i) (drop (16 * i) l) ≡ w

  pub through_more :
      (l v c d w : List ℕ) (n i : ℕ) → i < n → 16 * i + 16 ≤ length l → length v ≡ 16 → v ≡ out (take 16 (drop (16 * i) l)) c
      → d ≡ next (take 16 (drop (16 * i) l)) c → Through l c n i w → Through (splice (16 * i) v l) d n (i + 1) w
  through_more l v c d w n i h room long ev ed e =
      let p : List ℕ = drop (16 * i) l in
      let m : ℕ = n - (i + 1) in
      let on : 16 * (i + 1) ≡ 16 * i + length v = omega (arith, long) in
      let fits : 16 * i + length v ≤ length l = omega (arith, long, room) in
      let front : take (16 * (i + 1)) (splice (16 * i) v l) ≡ take (16 * i) l ++ v =
      ap (λ (k : ℕ). take k (splice (16 * i) v l)) on ∙ take-splice (16 * i) v l fits in
      let back : drop (16 * (i + 1)) (splice (16 * i) v l) ≡ drop 16 p =
      ap (λ (k : ℕ). drop k (splice (16 * i) v l)) on ∙ drop-splice (16 * i) v l fits
      ∙ ap (λ (k : ℕ). drop (16 * i + k) l) long ∙ sym (drop-drop 16 (16 * i) l) in
      let one : n - i ≡ suc m = omega arith in
      ap₂ (λ (a b : List ℕ). a ++ F d m b) front back
      ∙ append_assoc (take (16 * i) l) v (F d m (drop 16 p))
      ∙ ap (λ (r : List ℕ). take (16 * i) l ++ r)
      (ap₂ (λ (a b : List ℕ). a ++ F b m (drop 16 p)) ev ed ∙ sym (more c p m) ∙ ap (λ (k : ℕ). F c k p) (sym one))
      ∙ e

  pub through_done : (l c w : List ℕ) (n i : ℕ) → n ≤ i → Through l c n i w → l ≡ w
  through_done l c w n i h e =
      let over : n - i ≡ 0 = omega arith in
      sym (take-append-drop (16 * i) l)
      ∙ ap (λ (r : List ℕ). take (16 * i) l ++ r) (sym (none c (drop (16 * i) l)) ∙ ap (λ (k : ℕ). F c k (drop (16 * i) l)) (sym over)) ∙ e
