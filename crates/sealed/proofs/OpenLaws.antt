-- Opening undoes sealing: CBC deciphered is what was enciphered, over any block function that is undone, and so is a record.
use Rattle.std.proofs.Common.{◌≡◌, ℕ, zero, suc, ◌-◌, ◌*◌, ◌<◌, ◌≤◌, List, ◌∷◌, ◌++◌, length, take, drop, replicate, refl, sym, ap, ap₂, ◌∙◌, arith, lit<}
use Rattle.std.proofs.lemmas.List.{take-append-drop, length-drop, append-nil}
use lib.Seq.{take_at, drop_at}
use Rattle.spans.specs.Bytes.{Bytes, xor_bytes}
use Rattle.spans.proofs.BytesLaws.{AllBytes, AllBytes-append, AllBytes-drop, AllBytes-replicate, Bytes-take, Bytes-xor_bytes, Bytes-replicate, xor_twice, xor_zeros}
use Rattle.twofish.specs.declared.Twofish.{Twofish}
use Rattle.block.specs.Block.{enciphered, deciphered, Schedule}
use Rattle.block.proofs.Bytes16.{enciphered-bytes, deciphered-bytes}
use Rattle.block.proofs.Undone.{undone, redone}
use Rattle.block.proofs.ThereAndBack.{deciphered-length}
use Rattle.sealed.specs.Cbc.{cbc, uncbc}
use Rattle.sealed.specs.Record.{place_block, fill_byte, filled, sealed, page_of}
use Rattle.sealed.proofs.RecordLaws.{laid-length}
use Rattle.sealed.proofs.ChainLaws.{through-length}
use Rattle.sealed.proofs.Blocks.{xored-length}

module _ (E D : List ℕ → List ℕ) (wide : (l : List ℕ) → Bytes 16 (E l)) (undo : (l : List ℕ) → Bytes 16 l → D (E l) ≡ l) where
  pub uncbc-cbc : (n : ℕ) (c l : List ℕ) → Bytes 16 c → 16 * n ≤ length l → AllBytes l → uncbc D c n (cbc E c n l) ≡ l
  unfolding cbc uncbc
  uncbc-cbc zero c l hc h hb = refl
  uncbc-cbc (suc n) c l hc h hb =
      let p : List ℕ = take 16 l in
      let x : List ℕ = xor_bytes p c in
      let b : List ℕ = E x in
      let r : List ℕ = cbc E b n (drop 16 l) in
      let hp : Bytes 16 p = Bytes-take 16 l (omega arith) hb in
      let hx : Bytes 16 x = Bytes-xor_bytes hp hc in
      let front : take 16 (b ++ r) ≡ b = take_at b r 16 (wide x).long in
      let back : drop 16 (b ++ r) ≡ r = drop_at b r 16 (wide x).long in
      let first : xor_bytes (D (take 16 (b ++ r))) c ≡ p =
      ap (λ (m : List ℕ). xor_bytes (D m) c) front ∙ ap (λ (m : List ℕ). xor_bytes m c) (undo x hx) ∙ xor_twice p c (hp.long ∙ sym hc.long) in
      let rest : uncbc D (take 16 (b ++ r)) n (drop 16 (b ++ r)) ≡ drop 16 l =
      ap₂ (λ (m k : List ℕ). uncbc D m n k) front back
      ∙ uncbc-cbc n b (drop 16 l) (wide x) (omega (arith, length-drop 16 l)) (AllBytes-drop 16 l hb) in
      ap₂ ◌++◌ first rest ∙ take-append-drop 16 l

  -- and the reverse
  module _ (wide' : (l : List ℕ) → Bytes 16 (D l)) (redo : (l : List ℕ) → Bytes 16 l → E (D l) ≡ l) where
    pub cbc-uncbc : (n : ℕ) (c l : List ℕ) → Bytes 16 c → 16 * n ≤ length l → AllBytes l → cbc E c n (uncbc D c n l) ≡ l
    unfolding cbc uncbc
    cbc-uncbc zero c l hc h hb = refl
    cbc-uncbc (suc n) c l hc h hb =
        let p : List ℕ = take 16 l in
        let q : List ℕ = xor_bytes (D p) c in
        let r : List ℕ = uncbc D p n (drop 16 l) in
        let hp : Bytes 16 p = Bytes-take 16 l (omega arith) hb in
        let hq : Bytes 16 q = Bytes-xor_bytes (wide' p) hc in
        let front : take 16 (q ++ r) ≡ q = take_at q r 16 hq.long in
        let back : drop 16 (q ++ r) ≡ r = drop_at q r 16 hq.long in
        let first : E (xor_bytes (take 16 (q ++ r)) c) ≡ p =
        ap (λ (m : List ℕ). E (xor_bytes m c)) front ∙ ap E (xor_twice (D p) c ((wide' p).long ∙ sym hc.long)) ∙ redo p hp in
        let rest : cbc E (E (xor_bytes (take 16 (q ++ r)) c)) n (drop 16 (q ++ r)) ≡ drop 16 l =
        ap₂ (λ (m k : List ℕ). cbc E m n k) first back
        ∙ cbc-uncbc n p (drop 16 l) hp (omega (arith, length-drop 16 l)) (AllBytes-drop 16 l hb) in
        ap₂ ◌++◌ first rest ∙ take-append-drop 16 l

-- a record under a schedule opens to its place and its page
pub opened-sealed :
    (t : Twofish) (b p : ℕ) (plain : List ℕ) → Schedule t → b < 256 → p < 256 → length plain ≤ 256 → AllBytes plain
    → uncbc (deciphered t) (replicate 16 0) 17 (sealed (enciphered t) b p plain) ≡ place_block b p ++ filled plain
unfolding sealed place_block filled
opened-sealed t b p plain s hb hp h bytes =
    uncbc-cbc (enciphered t) (deciphered t) (enciphered-bytes t) (λ l k. undone t l s k) 17 (replicate 16 0) _ (Bytes-replicate 16 0 (lit< tt))
    (omega (arith, laid-length b p plain h))
    (AllBytes-append (b ∷ p ∷ replicate 14 0) _ place (AllBytes-append plain _ bytes (AllBytes-replicate _ fill_byte (lit< tt))))
  where
    place : AllBytes (b ∷ p ∷ replicate 14 0)
    place zero = hb
    place (suc zero) = hp
    place (suc (suc i)) = AllBytes-replicate 14 0 (lit< tt) i

-- a page of 256 bytes is filled with nothing
pub filled-page : (page : List ℕ) → length page ≡ 256 → filled page ≡ page
unfolding filled
filled-page page h = ap (λ (n : ℕ). page ++ replicate n fill_byte) (ap (λ (k : ℕ). 256 - k) h) ∙ append-nil page

-- 272 bytes that open to a place and a page are the record of that page at that place
pub sealed-opened :
    (t : Twofish) (b p : ℕ) (page r : List ℕ) → Schedule t → length r ≡ 272 → AllBytes r → length page ≡ 256
    → uncbc (deciphered t) (replicate 16 0) 17 r ≡ place_block b p ++ page → r ≡ sealed (enciphered t) b p page
unfolding sealed
sealed-opened t b p page r s long bytes whole e =
    sym (cbc-uncbc (enciphered t) (deciphered t) (enciphered-bytes t) (λ l k. undone t l s k) (deciphered-bytes t) (λ l k. redone t l s k)
    17 (replicate 16 0) r (Bytes-replicate 16 0 (lit< tt)) (omega (arith, long)) bytes)
    ∙ ap (cbc (enciphered t) (replicate 16 0) 17) (e ∙ ap (λ (m : List ℕ). place_block b p ++ m) (sym (filled-page page whole)))

-- and of no other page
pub one-page :
    (t : Twofish) (b p : ℕ) (page other : List ℕ) → Schedule t → b < 256 → p < 256 → length page ≡ 256 → length other ≡ 256 → AllBytes page
    → AllBytes other → sealed (enciphered t) b p page ≡ sealed (enciphered t) b p other → page ≡ other
unfolding place_block
one-page t b p page other s hb hp long long' bytes bytes' e =
    let both : place_block b p ++ filled page ≡ place_block b p ++ filled other =
    sym (opened-sealed t b p page s hb hp (omega (arith, long)) bytes)
    ∙ ap (uncbc (deciphered t) (replicate 16 0) 17) e
    ∙ opened-sealed t b p other s hb hp (omega (arith, long')) bytes' in
    sym (filled-page page long) ∙ ap (drop 16) both ∙ filled-page other long'

-- CBC deciphered keeps the length of whole blocks
pub uncbc-length :
    (t : Twofish) (n : ℕ) (c l : List ℕ) → length c ≡ 16 → 16 * n ≤ length l → length (uncbc (deciphered t) c n l) ≡ length l
unfolding uncbc
uncbc-length t n c l hc h =
    through-length (uncbc (deciphered t)) (λ p b. xor_bytes (deciphered t p) b) (λ p b. p) (λ b m. refl) (λ b m k. refl)
    (λ p b hp hb. (xored-length (deciphered t p) b (deciphered-length t p) hb, hp)) n c l hc h

-- the first block of a record opens to what it deciphers to
pub first_opened : (t : Twofish) (r : List ℕ) → take 16 (uncbc (deciphered t) (replicate 16 0) 17 r) ≡ deciphered t (take 16 r)
unfolding uncbc
first_opened t r =
    let d : List ℕ = deciphered t (take 16 r) in
    let z : List ℕ = replicate 16 0 in
    take_at (xor_bytes d z) (uncbc (deciphered t) (take 16 r) 16 (drop 16 r)) 16 (xored-length d z (deciphered-length t (take 16 r)) refl)
    ∙ xor_zeros d 16 (deciphered-length t (take 16 r))

-- 272 bytes hold a page of 256
pub page_of-length : (t : Twofish) (r : List ℕ) → length r ≡ 272 → length (page_of (deciphered t) r) ≡ 256
unfolding page_of
page_of-length t r long =
    let W : List ℕ = uncbc (deciphered t) (replicate 16 0) 17 r in
    length-drop 16 W ∙ omega (arith, uncbc-length t 17 (replicate 16 0) r refl (omega (arith, long)), long)

-- every 272 bytes whose first block deciphers to the place block are the record of a page, and by `one-page` of no other
pub sealing :
    (t : Twofish) (b p : ℕ) (r : List ℕ) → Schedule t → length r ≡ 272 → AllBytes r → deciphered t (take 16 r) ≡ place_block b p
    → r ≡ sealed (enciphered t) b p (page_of (deciphered t) r)
unfolding page_of
sealing t b p r s long bytes e =
    let W : List ℕ = uncbc (deciphered t) (replicate 16 0) 17 r in
    sealed-opened t b p (page_of (deciphered t) r) r s long bytes (page_of-length t r long)
    (sym (take-append-drop 16 W) ∙ ap (λ (m : List ℕ). m ++ drop 16 W) (first_opened t r ∙ e))
