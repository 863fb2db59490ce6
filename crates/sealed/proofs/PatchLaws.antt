-- A record with bytes laid over its page is that page sealed afresh with them: the blocks before the first that holds one of them stay, and those from it
-- on need only the block before them.
use Rattle.std.proofs.Common.{◌≡◌, true, ℕ, zero, suc, ◌+◌, ◌-◌, ◌*◌, ◌≤◌, List, ◌++◌, length, take, drop, replicate, refl, sym, ap, ap₂, ◌∙◌, arith, append_assoc, length-drop}
use Rattle.std.proofs.lemmas.List.{drop-drop}
use lib.Seq.{take_at, drop_at, take-add, take-append-add}
use lib.Pointwise.{bytes_decides}
use Rattle.spans.specs.Bytes.{Bytes, xor_bytes}
use Rattle.spans.specs.Parts.{splice}
use Rattle.spans.proofs.BytesLaws.{AllBytes, AllBytes-drop, Bytes-take, xor_twice}
use Rattle.spans.proofs.PartsLaws.{splice-length, splice_after}
use Rattle.twofish.specs.declared.Twofish.{Twofish}
use Rattle.block.specs.Block.{enciphered, deciphered}
use Rattle.sealed.specs.Cbc.{cbc, uncbc}
use Rattle.sealed.specs.Record.{sealed, looked, page_of}
use Rattle.sealed.proofs.OpenLaws.{filled-page, first_opened, page_of-length}
use Rattle.sealed.proofs.Blocks.{xored-length}
use Rattle.sealed.proofs.MiddleLaws.{from_block}

module _ (E D : List ℕ → List ℕ) (wide : (l : List ℕ) → Bytes 16 (D l)) (redo : (l : List ℕ) → Bytes 16 l → E (D l) ≡ l) where
  -- the first blocks as they open, and other blocks after them: the first are enciphered to what they were
  pub kept :
      (i n m : ℕ) (c r u : List ℕ) → n ≡ suc i + m → length c ≡ 16 → 16 * suc i ≤ length r → AllBytes r
      → cbc E c n (take (16 * suc i) (uncbc D c n r) ++ u) ≡ take (16 * suc i) r ++ cbc E (take 16 (drop (16 * i) r)) m u
  unfolding cbc uncbc
  kept i zero m c r u e hc h bytes = absurd (omega (arith, e))
  kept zero (suc n) m c r u e hc h bytes =
      let p : List ℕ = take 16 r in
      let q : List ℕ = xor_bytes (D p) c in
      let one : 16 * suc zero ≡ 16 = omega arith in
      let same : n ≡ m = omega (arith, e) in
      let hp : Bytes 16 p = Bytes-take 16 r (omega (arith, h)) bytes in
      let hq : length q ≡ 16 = xored-length (D p) c (wide p).long hc in
      let back : E (xor_bytes q c) ≡ p = ap E (xor_twice (D p) c ((wide p).long ∙ sym hc)) ∙ redo p hp in
      let front : take (16 * suc zero) (q ++ uncbc D p n (drop 16 r)) ≡ q =
      ap (λ (k : ℕ). take k (q ++ uncbc D p n (drop 16 r))) one ∙ take_at q (uncbc D p n (drop 16 r)) 16 hq in
      ap (λ (f : List ℕ). cbc E c (suc n) (f ++ u)) front
      ∙ ap₂ (λ (f d : List ℕ). E (xor_bytes f c) ++ cbc E (E (xor_bytes f c)) n d) (take_at q u 16 hq) (drop_at q u 16 hq)
      ∙ ap₂ (λ (b : List ℕ) (k : ℕ). b ++ cbc E b k u) back same
      ∙ ap (λ (k : ℕ). take k r ++ cbc E p m u) (sym one)
  kept (suc i) (suc n) m c r u e hc h bytes =
      let p : List ℕ = take 16 r in
      let q : List ℕ = xor_bytes (D p) c in
      let rest : List ℕ = uncbc D p n (drop 16 r) in
      let on : 16 * suc (suc i) ≡ 16 + 16 * suc i = omega arith in
      let hp : Bytes 16 p = Bytes-take 16 r (omega (arith, h)) bytes in
      let hq : length q ≡ 16 = xored-length (D p) c (wide p).long hc in
      let on' : 16 * suc (suc i) ≡ length q + 16 * suc i = omega (arith, hq) in
      let at : 16 + 16 * i ≡ 16 * suc i = omega arith in
      let back : E (xor_bytes q c) ≡ p = ap E (xor_twice (D p) c ((wide p).long ∙ sym hc)) ∙ redo p hp in
      let t : List ℕ = take (16 * suc i) rest in
      let front : take (16 * suc (suc i)) (q ++ rest) ++ u ≡ q ++ (t ++ u) =
      ap (λ (k : ℕ). take k (q ++ rest) ++ u) on' ∙ ap (λ (f : List ℕ). f ++ u) (take-append-add q rest (16 * suc i)) ∙ append_assoc q t u in
      ap (λ (f : List ℕ). cbc E c (suc n) f) front
      ∙ ap₂ (λ (f d : List ℕ). E (xor_bytes f c) ++ cbc E (E (xor_bytes f c)) n d) (take_at q (t ++ u) 16 hq) (drop_at q (t ++ u) 16 hq)
      ∙ ap (λ (b : List ℕ). b ++ cbc E b n (t ++ u)) back
      ∙ ap (λ (b : List ℕ). p ++ b)
      (kept i n m p (drop 16 r) u (omega (arith, e)) hp.long (omega (arith, h, length-drop 16 r)) (AllBytes-drop 16 r bytes))
      ∙ sym (append_assoc p (take (16 * suc i) (drop 16 r)) (cbc E (take 16 (drop (16 * i) (drop 16 r))) m u))
      ∙ ap₂ (λ (f d : List ℕ). f ++ cbc E (take 16 d) m u)
      (sym (take-add 16 (16 * suc i) r) ∙ ap (λ (k : ℕ). take k r) (sym on))
      (drop-drop (16 * i) 16 r ∙ ap (λ (k : ℕ). drop k r) at)

  -- bytes laid over a page from p on: the record is rewritten from the block that holds p on, i being its number, and q p's place in it
  pub overlaid :
      (i q : ℕ) (bytes r : List ℕ) → length r ≡ 272 → AllBytes r → i ≤ 15
      → take (16 + 16 * i) r
      ++ cbc E (take 16 (drop (16 * i) r)) (16 - i) (splice q bytes (uncbc D (take 16 (drop (16 * i) r)) (16 - i) (drop (16 + 16 * i) r)))
      ≡ cbc E (replicate 16 0) 17 (splice (16 + (16 * i + q)) bytes (uncbc D (replicate 16 0) 17 r))
  overlaid i q bytes r long byte few =
      let z : List ℕ = replicate 16 0 in
      let W : List ℕ = uncbc D z 17 r in
      let c : List ℕ = take 16 (drop (16 * i) r) in
      let m : ℕ = 16 - i in
      let on : 16 + 16 * i ≡ 16 * suc i = omega arith in
      let off : 16 * suc i + q ≡ 16 + (16 * i + q) = omega arith in
      ap (λ (k : ℕ). take k r ++ cbc E c m (splice q bytes (uncbc D c m (drop k r)))) on
      ∙ ap (λ (d : List ℕ). take (16 * suc i) r ++ cbc E c m (splice q bytes d))
      (sym (from_block D (λ l. (wide l).long) i 17 m z r (omega (arith, few)) refl (omega (arith, long, few))))
      ∙ sym (kept i 17 m z r (splice q bytes (drop (16 * suc i) W)) (omega (arith, few)) refl (omega (arith, long, few)) byte)
      ∙ ap (cbc E z 17) (sym (splice_after (16 * suc i) q bytes W) ∙ ap (λ (k : ℕ). splice k bytes W) off)

-- bytes laid from q on over the page of a record of a place
pub patched :
    (t : Twofish) (b p q : ℕ) (bytes r : List ℕ) → length r ≡ 272 → q + length bytes ≤ 256 → looked (deciphered t) b p r ≡ true
    → cbc (enciphered t) (replicate 16 0) 17 (splice (16 + q) bytes (uncbc (deciphered t) (replicate 16 0) 17 r))
    ≡ sealed (enciphered t) b p (splice q bytes (page_of (deciphered t) r))
unfolding sealed page_of looked
patched t b p q bytes r long room e =
    let W : List ℕ = uncbc (deciphered t) (replicate 16 0) 17 r in
    let page : List ℕ = drop 16 W in
    let whole : length page ≡ 256 = page_of-length t r long in
    ap (cbc (enciphered t) (replicate 16 0) 17)
    (splice_after 16 q bytes W
    ∙ ap₂ ◌++◌ (first_opened t r ∙ (bytes_decides _ _).0 e)
    (sym (filled-page (splice q bytes page) (splice-length q bytes page (omega (arith, room, whole)) ∙ whole))))
