-- The sealed record of a page: CBC over the place block and the page, whose record it is, and the page that it holds.
use Rattle.std.specs.Prelude.{Bool, ◌&&◌, List, ◌∷◌, ◌++◌, ℕ, ◌-◌, eqb, leb, cond, length, take, drop, replicate, get_or}
use lib.Pointwise.{pointwise}
use Rattle.twofish.specs.declared.Location.{Location}
use Rattle.twofish.specs.declared.Twofish.{Twofish}
use Rattle.block.specs.Block.{deciphered}
use Rattle.sealed.specs.declared.Seen.{Seen}
use Rattle.sealed.specs.declared.Seen.TheVariants.{Own, Other, NoPlace}
use Rattle.sealed.specs.Cbc.{cbc, uncbc}

-- the place block: the bank, the page, and zeros
unfoldable pub place_block : ℕ → ℕ → List ℕ
place_block bank page = bank ∷ page ∷ replicate 14 0

-- the byte that fills a short page at its end: what an erased part reads
abbrev pub fill_byte : ℕ
fill_byte = 0xff

-- the page of 256 bytes that plain bytes make
unfoldable pub filled : List ℕ → List ℕ
filled plain = plain ++ replicate (256 - length plain) fill_byte

-- the record: the 17 blocks of place and page in CBC after a zero first chaining block
unfoldable pub sealed : (List ℕ → List ℕ) → ℕ → ℕ → List ℕ → List ℕ
sealed E bank page plain = cbc E (replicate 16 0) 17 (place_block bank page ++ filled plain)

-- whether a record is that of a place: its first block deciphers to the place block
unfoldable pub looked : (List ℕ → List ℕ) → ℕ → ℕ → List ℕ → Bool
looked D bank page bytes = pointwise eqb (D (take 16 bytes)) (place_block bank page)

-- whether a block is the place block of any bank and page at all, and of which
unfoldable pub names_place : List ℕ → Bool
names_place block = pointwise eqb (drop 2 block) (replicate 14 0)

unfoldable pub place_named : List ℕ → Location
place_named block = record { bank = get_or block 0 0; page = get_or block 1 0 }

-- whose record it is, looked at for a place: that place's own, another place's, or that of none
unfoldable pub whose : (List ℕ → List ℕ) → ℕ → ℕ → List ℕ → Seen
whose D bank page bytes =
    cond (looked D bank page bytes) Own (cond (names_place (D (take 16 bytes))) (Other (place_named (D (take 16 bytes)))) NoPlace)

-- the same of any bytes under any schedule: under one that is refused, and of any other length than a record's, they are no place's
unfoldable pub whose_answer : Twofish → ℕ → ℕ → List ℕ → Seen
whose_answer t bank page bytes = cond (leb t.start 2 && eqb (length bytes) 272) (whose (deciphered t) bank page bytes) NoPlace

-- the page of a record: what its blocks after the first decipher to
unfoldable pub page_of : (List ℕ → List ℕ) → List ℕ → List ℕ
page_of D bytes = drop 16 (uncbc D (replicate 16 0) 17 bytes)
