-- Pages of 256 bytes, and the page of a record: a sealed record is that of its place and holds its page, and every record of its place is its page sealed.
use Rattle.std.proofs.Common.{◌≡◌, ℕ, zero, suc, ◌+◌, ◌-◌, ◌*◌, ◌<◌, ◌≤◌, true, List, ◌++◌, length, take, drop, replicate, refl, sym, ap, subst, ◌∙◌, arith, lit<, length-drop}
use Rattle.std.proofs.lemmas.List.{nil_from_length}
use lib.Pointwise.{bytes_decides}
use lib.Seq.{take_at, drop_at}
use Rattle.spans.specs.Bytes.{Bytes, xor_bytes}
use Rattle.spans.specs.Parts.{splice}
use Rattle.spans.proofs.PartsLaws.{splice-length}
use Rattle.spans.proofs.BytesLaws.{AllBytes, AllBytes-append, AllBytes-take, AllBytes-drop, Bytes-append, Bytes-take, Bytes-drop, Bytes-xor_bytes, Bytes-replicate}
use Rattle.twofish.specs.declared.Twofish.{Twofish}
use Rattle.block.specs.Block.{enciphered, deciphered, Schedule}
use Rattle.block.proofs.Bytes16.{enciphered-bytes, deciphered-bytes}
use Rattle.sealed.specs.Cbc.{cbc, uncbc}
use Rattle.sealed.specs.Record.{place_block, fill_byte, filled, sealed, looked, page_of}
use Rattle.sealed.proofs.RecordLaws.{laid-length}
use Rattle.sealed.proofs.OpenLaws.{opened-sealed, first_opened, sealing, uncbc-length}

-- plain bytes make a page
pub filled-bytes : (plain : List ℕ) → length plain ≤ 256 → AllBytes plain → Bytes 256 (filled plain)
unfolding filled
filled-bytes plain h bytes =
    let whole = Bytes-append record { long = refl; byte = bytes } (Bytes-replicate (256 - length plain) fill_byte (lit< tt)) in
    record { long = whole.long ∙ omega (arith, h); byte = whole.byte }

-- bytes laid over a page leave a page
pub patched-bytes : (o : ℕ) (bytes page : List ℕ) → o + length bytes ≤ 256 → AllBytes bytes → Bytes 256 page → Bytes 256 (splice o bytes page)
unfolding splice
patched-bytes o bytes page fits b h =
    record {
      long = splice-length o bytes page (omega (arith, fits, h.long)) ∙ h.long;
      byte = AllBytes-append (take o page) _ (AllBytes-take o page h.byte) (AllBytes-append bytes _ b (AllBytes-drop (o + length bytes) page h.byte));
    }

-- blocks deciphered in CBC are bytes
uncbc-bytes : (t : Twofish) (n : ℕ) (c l : List ℕ) → Bytes 16 c → 16 * n ≤ length l → AllBytes l → AllBytes (uncbc (deciphered t) c n l)
unfolding uncbc
uncbc-bytes t zero c l hc h bytes = bytes
uncbc-bytes t (suc n) c l hc h bytes =
    AllBytes-append _ _ (Bytes-xor_bytes (deciphered-bytes t (take 16 l)) hc).byte
    (uncbc-bytes t n (take 16 l) (drop 16 l) (Bytes-take 16 l (omega (arith, h)) bytes) (omega (arith, h, length-drop 16 l)) (AllBytes-drop 16 l bytes))

-- 272 bytes hold a page of 256 bytes
pub page_of-bytes : (t : Twofish) (r : List ℕ) → length r ≡ 272 → AllBytes r → Bytes 256 (page_of (deciphered t) r)
unfolding page_of
page_of-bytes t r long bytes =
    Bytes-drop 16 256 _ (uncbc-length t 17 (replicate 16 0) r refl (omega (arith, long)) ∙ long)
    (uncbc-bytes t 17 (replicate 16 0) r (Bytes-replicate 16 0 (lit< tt)) (omega (arith, long)) bytes)

-- whole blocks enciphered in CBC are bytes
cbc-bytes : (t : Twofish) (n : ℕ) (c l : List ℕ) → length l ≡ 16 * n → AllBytes (cbc (enciphered t) c n l)
unfolding cbc
cbc-bytes t zero c l h = subst AllBytes (sym (nil_from_length l (omega (arith, h)))) (λ i. lit< tt)
cbc-bytes t (suc n) c l h =
    AllBytes-append _ _ (enciphered-bytes t (xor_bytes (take 16 l) c)).byte
    (cbc-bytes t n (enciphered t (xor_bytes (take 16 l) c)) (drop 16 l) (omega (arith, h, length-drop 16 l)))

-- and so is a record
pub sealed-bytes : (t : Twofish) (b p : ℕ) (plain : List ℕ) → length plain ≤ 256 → AllBytes (sealed (enciphered t) b p plain)
unfolding sealed
sealed-bytes t b p plain h = cbc-bytes t 17 (replicate 16 0) (place_block b p ++ filled plain) (omega (arith, laid-length b p plain h))

module _ (t : Twofish) (b p : ℕ) (s : Schedule t) where
  module _ (plain : List ℕ) (hb : b < 256) (hp : p < 256) (h : length plain ≤ 256) (bytes : AllBytes plain) where
    pub page_of-sealed : page_of (deciphered t) (sealed (enciphered t) b p plain) ≡ filled plain
    unfolding page_of place_block
    page_of-sealed = ap (drop 16) (opened-sealed t b p plain s hb hp h bytes) ∙ drop_at (place_block b p) (filled plain) 16 refl

    pub looked-sealed : looked (deciphered t) b p (sealed (enciphered t) b p plain) ≡ true
    unfolding looked place_block
    looked-sealed =
        (bytes_decides _ (place_block b p)).1
        (sym (first_opened t (sealed (enciphered t) b p plain))
        ∙ ap (take 16) (opened-sealed t b p plain s hb hp h bytes) ∙ take_at (place_block b p) (filled plain) 16 refl)

  pub sealed-page_of :
      (r : List ℕ) → length r ≡ 272 → AllBytes r → looked (deciphered t) b p r ≡ true → sealed (enciphered t) b p (page_of (deciphered t) r) ≡ r
  unfolding looked page_of
  sealed-page_of r long bytes e = sym (sealing t b p r s long bytes ((bytes_decides _ _).0 e))
