-- CBC deciphered in its middle: blocks from one on need only the block before them, and blocks up to one only those.
use Rattle.std.proofs.Common.{◌≡◌, ℕ, zero, suc, ◌+◌, ◌-◌, ◌*◌, ◌≤◌, List, ◌++◌, length, take, drop, replicate, refl, sym, ap, ap₂, ◌∙◌, arith, length-drop}
use Rattle.std.proofs.lemmas.List.{drop-drop, drop-take, take-take}
use lib.Seq.{drop_at, length-take-le, take-append-add}
use Rattle.spans.specs.Bytes.{xor_bytes}
use Rattle.sealed.specs.Cbc.{uncbc}
use Rattle.sealed.specs.Record.{page_of}
use Rattle.sealed.proofs.Blocks.{xored-length}

module _ (D : List ℕ → List ℕ) (wide : (l : List ℕ) → length (D l) ≡ 16) where
  pub from_block :
      (i n m : ℕ) (c l : List ℕ) → n ≡ suc i + m → length c ≡ 16 → 16 * suc i ≤ length l
      → drop (16 * suc i) (uncbc D c n l) ≡ uncbc D (take 16 (drop (16 * i) l)) m (drop (16 * suc i) l)
  unfolding uncbc
  from_block i zero m c l e hc h = absurd (omega (arith, e))
  from_block zero (suc n) m c l e hc h =
      let x : List ℕ = xor_bytes (D (take 16 l)) c in
      let r : List ℕ = uncbc D (take 16 l) n (drop 16 l) in
      let one : 16 * suc zero ≡ 16 = omega arith in
      let same : n ≡ m = omega (arith, e) in
      ap (λ (j : ℕ). drop j (x ++ r)) one
      ∙ drop_at x r 16 (xored-length (D (take 16 l)) c (wide (take 16 l)) hc)
      ∙ ap₂ (λ (j k : ℕ). uncbc D (take 16 l) j (drop k l)) same (sym one)
  from_block (suc i) (suc n) m c l e hc h =
      let x : List ℕ = xor_bytes (D (take 16 l)) c in
      let r : List ℕ = uncbc D (take 16 l) n (drop 16 l) in
      let on : 16 * suc (suc i) ≡ 16 + 16 * suc i = omega arith in
      let on' : 16 + 16 * i ≡ 16 * suc i = omega arith in
      ap (λ (j : ℕ). drop j (x ++ r)) on
      ∙ sym (drop-drop (16 * suc i) 16 (x ++ r))
      ∙ ap (drop (16 * suc i)) (drop_at x r 16 (xored-length (D (take 16 l)) c (wide (take 16 l)) hc))
      ∙ from_block i n m (take 16 l) (drop 16 l) (omega (arith, e)) (length-take-le 16 l (omega (arith, h))) (omega (arith, h, length-drop 16 l))
      ∙ ap₂ (λ (a b : List ℕ). uncbc D (take 16 a) m b)
      (drop-drop (16 * i) 16 l ∙ ap (λ (j : ℕ). drop j l) on')
      (drop-drop (16 * suc i) 16 l ∙ ap (λ (j : ℕ). drop j l) (sym on))

  pub up_to_block :
      (k n : ℕ) (c l : List ℕ) → k ≤ n → length c ≡ 16 → 16 * k ≤ length l → take (16 * k) (uncbc D c n l) ≡ uncbc D c k (take (16 * k) l)
  unfolding uncbc
  up_to_block zero n c l le hc h = refl
  up_to_block (suc k) zero c l le hc h = absurd (omega (arith, le))
  up_to_block (suc k) (suc n) c l le hc h =
      let x : List ℕ = xor_bytes (D (take 16 l)) c in
      let r : List ℕ = uncbc D (take 16 l) n (drop 16 l) in
      let long : length x ≡ 16 = xored-length (D (take 16 l)) c (wide (take 16 l)) hc in
      let on : 16 * suc k ≡ length x + 16 * k = omega (arith, long) in
      let on' : 16 * suc k ≡ 16 + 16 * k = omega arith in
      let front : take 16 (take (16 * suc k) l) ≡ take 16 l = take-take 16 (16 * suc k) l (omega arith) in
      let back : drop 16 (take (16 * suc k) l) ≡ take (16 * k) (drop 16 l) = ap (λ (j : ℕ). drop 16 (take j l)) on' ∙ drop-take 16 (16 * k) l in
      ap (λ (j : ℕ). take j (x ++ r)) on
      ∙ take-append-add x r (16 * k)
      ∙ ap (λ (b : List ℕ). x ++ b) (up_to_block k n (take 16 l) (drop 16 l) (omega (arith, le)) (length-take-le 16 l (omega (arith, h))) (omega (arith, h, length-drop 16 l)))
      ∙ sym (ap₂ (λ (a b : List ℕ). xor_bytes (D a) c ++ uncbc D a k b) front back)

  -- the bytes of a page from its place p on, from the k blocks that hold them: q is p's place in the first of them, i
  pub page_bytes :
      (i q k n : ℕ) (l : List ℕ) → length l ≡ 272 → i + k ≤ 16 → q + n ≤ 16 * k
      → take n (drop q (uncbc D (take 16 (drop (16 * i) l)) k (take (16 * k) (drop (16 + 16 * i) l)))) ≡ take n (drop (16 * i + q) (page_of D l))
  unfolding page_of
  page_bytes i q k n l long fits room =
      let m : ℕ = 16 - i in
      let z : List ℕ = replicate 16 0 in
      let c : List ℕ = take 16 (drop (16 * i) l) in
      let r : List ℕ = drop (16 * suc i) l in
      let W : List ℕ = uncbc D z 17 l in
      let V : List ℕ = uncbc D c m r in
      let on : 16 + 16 * i ≡ 16 * suc i = omega arith in
      let hc : length c ≡ 16 = length-take-le 16 (drop (16 * i) l) (omega (arith, length-drop (16 * i) l, long, fits)) in
      let hr : 16 * k ≤ length r = omega (arith, length-drop (16 * suc i) l, long, fits) in
      let spare : q + (16 * k - q) ≡ 16 * k = omega (arith, room) in
      let short : take n (drop q (take (16 * k) V)) ≡ take n (drop q V) =
      ap (λ (j : ℕ). take n (drop q (take j V))) (sym spare)
      ∙ ap (take n) (drop-take q (16 * k - q) V)
      ∙ take-take n (16 * k - q) (drop q V) (omega (arith, room)) in
      let joined : 16 * suc i + q ≡ 16 + (16 * i + q) = omega arith in
      ap (λ (j : ℕ). take n (drop q (uncbc D c k (take (16 * k) (drop j l))))) on
      ∙ ap (λ (b : List ℕ). take n (drop q b)) (sym (up_to_block k m c r (omega (arith, fits)) hc hr))
      ∙ short
      ∙ ap (λ (b : List ℕ). take n (drop q b)) (sym (from_block i 17 m z l (omega (arith, fits)) refl (omega (arith, long, fits))))
      ∙ ap (take n) (drop-drop q (16 * suc i) W ∙ ap (λ (j : ℕ). drop j W) joined ∙ sym (drop-drop (16 * i + q) 16 W))
