-- Records that were sealed when a short page was filled with zeros open as they did: to their place, and to those zeros.
use Rattle.std.proofs.Common.{◌≡◌, ℕ, ◌-◌, ◌<◌, ◌≤◌, true, List, ◌++◌, length, replicate, sym, ap, ◌∙◌, refl, arith, lit<}
use Rattle.spans.specs.Bytes.{Bytes}
use Rattle.spans.proofs.BytesLaws.{AllBytes, Bytes-append, Bytes-replicate}
use Rattle.twofish.specs.declared.Twofish.{Twofish}
use Rattle.block.specs.Block.{enciphered, deciphered, Schedule}
use Rattle.sealed.specs.Cbc.{cbc}
use Rattle.sealed.specs.Record.{place_block, sealed, looked, page_of}
use Rattle.sealed.proofs.OpenLaws.{filled-page}
use Rattle.sealed.proofs.PageLaws.{page_of-sealed, looked-sealed}

-- the page that plain bytes made then, and its record
abbrev pub page_before : List ℕ → List ℕ
page_before plain = plain ++ replicate (256 - length plain) 0

abbrev pub sealed_before : Twofish → ℕ → ℕ → List ℕ → List ℕ
sealed_before t b p plain = cbc (enciphered t) (replicate 16 0) 17 (place_block b p ++ page_before plain)

module _ (t : Twofish) (b p : ℕ) (s : Schedule t) (plain : List ℕ) (hb : b < 256) (hp : p < 256) (h : length plain ≤ 256) (bytes : AllBytes plain) where
  page : Bytes 256 (page_before plain)
  page =
      let whole = Bytes-append record { long = refl; byte = bytes } (Bytes-replicate (256 - length plain) 0 (lit< tt)) in
      record { long = whole.long ∙ omega (arith, h); byte = whole.byte }

  -- it is the record of that page still
  same : sealed_before t b p plain ≡ sealed (enciphered t) b p (page_before plain)
  unfolding sealed
  same = ap (λ (m : List ℕ). cbc (enciphered t) (replicate 16 0) 17 (place_block b p ++ m)) (sym (filled-page (page_before plain) page.long))

  pub looked-sealed_before : looked (deciphered t) b p (sealed_before t b p plain) ≡ true
  looked-sealed_before = ap (looked (deciphered t) b p) same ∙ looked-sealed t b p s (page_before plain) hb hp (omega (arith, page.long)) page.byte

  pub page_of-sealed_before : page_of (deciphered t) (sealed_before t b p plain) ≡ page_before plain
  page_of-sealed_before =
      ap (page_of (deciphered t)) same ∙ page_of-sealed t b p s (page_before plain) hb hp (omega (arith, page.long)) page.byte
      ∙ filled-page (page_before plain) page.long
