-- The image: the records of a geometry in slot order, what seal and patch do to it, and what read gives.
use Rattle.std.specs.Prelude.{Bool, true, false, not, ◌&&◌, List, [], ◌∷◌, ◌++◌, ℕ, ◌+◌, ◌-◌, ◌*◌, ◌/◌, ◌%◌, eqb, ltb, leb, length, take, drop}
use Rattle.spans.specs.Parts.{splice}
use Rattle.spans.specs.Refusals.{Line, ◌when◌, given}
use Rattle.twofish.specs.declared.Answer.{Answer}
use Rattle.twofish.specs.declared.Location.{Location}
use Rattle.twofish.specs.declared.Twofish.{Twofish}
use Rattle.twofish.specs.Answers.{nowhere, answer_at}
use Rattle.sealed.specs.declared.Geometry.{Geometry}
use Rattle.block.specs.Block.{deciphered}
use Rattle.sealed.specs.declared.Seen.{Seen}
use Rattle.sealed.specs.declared.Seen.TheVariants.{Other, NoPlace}
use Rattle.sealed.specs.Record.{sealed, whose, page_of}

-- from 1 to 256
unfoldable pub up_to_256 : ℕ → Bool
up_to_256 n = ltb 0 n && leb n 256

-- pages and banks are from 1 to 256
unfoldable pub in_range : Geometry → Bool
in_range G = up_to_256 G.pages && up_to_256 G.banks

-- the bytes of an image: 272 for each page of each bank
unfoldable pub image_length : Geometry → ℕ
image_length G = 272 * (G.pages * G.banks)

-- whether a bank and a page are there
unfoldable pub reached : Geometry → ℕ → ℕ → Bool
reached G bank page = ltb bank G.banks && ltb page G.pages

-- the slot of a page
unfoldable pub slot : Geometry → ℕ → ℕ → ℕ
slot G bank page = bank * G.pages + page

-- whether a bank and an offset into it are there
unfoldable pub offset_reached : Geometry → ℕ → ℕ → Bool
offset_reached G bank offset = ltb bank G.banks && ltb offset (256 * G.pages)

-- whether n bytes from an offset on are 1 to 256, all inside one page
unfoldable pub within_page : ℕ → ℕ → Bool
within_page offset n = up_to_256 n && leb (offset % 256 + n) 256

-- the record of a page of a bank
unfoldable pub record_at : Geometry → ℕ → ℕ → List ℕ → List ℕ
record_at G bank page image = take 272 (drop (272 * slot G bank page) image)

-- the refusals of a schedule, a geometry and an image's length, in document 01's order
unfoldable pub image_refusals : Twofish → Geometry → ℕ → List Line
image_refusals t G long = 2 when ltb 2 t.start ∷ 4 when not (in_range G) ∷ 5 when not (eqb long (image_length G)) ∷ []

-- the number of theirs
unfoldable pub image_number : Twofish → Geometry → ℕ → ℕ
image_number t G long = given (image_refusals t G long)

-- the refusals of a call on an image, up to its look at a record: after those, by whether its place is there, and whether its length fits
unfoldable pub refusals : Twofish → Geometry → ℕ → Bool → Bool → List Line
refusals t G long placed fits = image_refusals t G long ++ 6 when not placed ∷ 7 when not fits ∷ []

-- the number of seal's refusal, which does not look at the record
unfoldable pub seal_number : Twofish → Geometry → ℕ → ℕ → ℕ → ℕ → ℕ
seal_number t G long bank page n = given (refusals t G long (reached G bank page) (up_to_256 n))

-- whose record it is that a call looks at
unfoldable pub seen_at : Twofish → Geometry → List ℕ → ℕ → ℕ → Seen
seen_at t G image bank offset = whose (deciphered t) bank (offset / 256) (record_at G bank (offset / 256) image)

-- the refusals of a look: 8, the record is no place's; 11, it is another place's
abbrev pub is_no_place : Seen → Bool
is_no_place NoPlace = true
is_no_place s = false

abbrev pub is_other : Seen → Bool
is_other (Other l) = true
is_other s = false

unfoldable pub look_refusals : Seen → List Line
look_refusals s = 8 when is_no_place s ∷ 11 when is_other s ∷ []

-- the other place
abbrev pub other_place : Seen → Location
other_place (Other l) = l
other_place s = nowhere

-- the number of read's and patch's refusal: after those, that of their look
unfoldable pub access_number : Twofish → Geometry → List ℕ → ℕ → ℕ → ℕ → ℕ
access_number t G image bank offset n =
    given (refusals t G (length image) (offset_reached G bank offset) (within_page offset n) ++ look_refusals (seen_at t G image bank offset))

-- what they answer, where c is what they count
unfoldable pub access_answer : Twofish → Geometry → List ℕ → ℕ → ℕ → ℕ → ℕ → Answer
access_answer t G image bank offset n c = answer_at (other_place (seen_at t G image bank offset)) (access_number t G image bank offset n) c

-- an image with the page of a bank sealed into its slot
unfoldable pub sealed_in : (List ℕ → List ℕ) → Geometry → ℕ → ℕ → List ℕ → List ℕ → List ℕ
sealed_in E G bank page plain image = splice (272 * slot G bank page) (sealed E bank page plain) image

-- the n bytes from an offset on, as the page's record holds them
unfoldable pub read_from : (List ℕ → List ℕ) → Geometry → ℕ → ℕ → ℕ → List ℕ → List ℕ
read_from D G bank offset n image = take n (drop (offset % 256) (page_of D (record_at G bank (offset / 256) image)))

-- an image with bytes laid over a page from an offset on: the page sealed afresh with them
unfoldable pub patched_in : (List ℕ → List ℕ) → (List ℕ → List ℕ) → Geometry → ℕ → ℕ → List ℕ → List ℕ → List ℕ
patched_in E D G bank offset bytes image =
    sealed_in E G bank (offset / 256) (splice (offset % 256) bytes (page_of D (record_at G bank (offset / 256) image))) image

-- how many blocks a patch counts: from the first that it writes into to the end
unfoldable pub patch_count : ℕ → ℕ
patch_count offset = 16 - offset % 256 / 16
