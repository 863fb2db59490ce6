-- The plain image where every record is readable: its pages in slot order, what calls do to it, and its sealing afresh.
use Rattle.std.specs.Prelude.{◌≡◌, true, List, [], ◌∷◌, ℕ, zero, suc, ◌*◌, ◌/◌, ◌%◌, ◌<◌, length, take, drop, set, get_or}
use Rattle.spans.specs.Bytes.{Bytes}
use Rattle.spans.specs.Parts.{splice}
use Rattle.spans.specs.Refusals.{given}
use Rattle.twofish.specs.declared.Twofish.{Twofish}
use Rattle.twofish.specs.Answers.{nowhere}
use Rattle.block.specs.Block.{enciphered, deciphered}
use Rattle.sealed.specs.declared.Geometry.{Geometry}
use Rattle.sealed.specs.Record.{filled, sealed, looked, page_of}
use Rattle.sealed.specs.Image.{slot, image_length, record_at, seal_number}
use Rattle.history.specs.Calls.{Call, Seal, Patch, Read, Acts, before_look}
use Rattle.history.specs.Order.{in_order, Each}

-- the number of a call's refusal, whatever the pages hold: 8 and 11 are none of them
unfoldable pub pages_number : Twofish → Geometry → Call → ℕ
pages_number t G (Seal bank page plain) = seal_number t G (image_length G) bank page (length plain)
pages_number t G (Patch bank offset bytes) = given (before_look t G bank offset (length bytes))
pages_number t G (Read bank offset out) = given (before_look t G bank offset (length out))

-- the page of a bank that an offset lies in
unfoldable pub page_at : Geometry → ℕ → ℕ → List (List ℕ) → List ℕ
page_at G bank offset pages = get_or pages (slot G bank (offset / 256)) []

-- the plain bytes that an accepted read gives
unfoldable pub plain_bytes : Geometry → Call → List (List ℕ) → List ℕ
plain_bytes G (Seal bank page plain) pages = []
plain_bytes G (Patch bank offset bytes) pages = []
plain_bytes G (Read bank offset out) pages = take (length out) (drop (offset % 256) (page_at G bank offset pages))

-- the plain image with an accepted write applied
unfoldable pub applied : Geometry → Call → List (List ℕ) → List (List ℕ)
applied G (Seal bank page plain) pages = set pages (slot G bank page) (filled plain)
applied G (Patch bank offset bytes) pages = set pages (slot G bank (offset / 256)) (splice (offset % 256) bytes (page_at G bank offset pages))
applied G (Read bank offset out) pages = pages

abbrev pub on_pages : Twofish → Geometry → Acts (List (List ℕ))
on_pages t G = record { number = λ c pages. pages_number t G c; place = λ c pages. nowhere; bytes = plain_bytes G; next = applied G }

-- the sealing afresh of a plain image
unfoldable pub sealing : Twofish → Geometry → List (List ℕ) → List ℕ
sealing t G pages = in_order (λ s page. sealed (enciphered t) (s / G.pages) (s % G.pages) page) 0 pages

-- a plain image of a geometry: as many pages as it has records, each of 256 bytes
pub record Pages (G : Geometry) (pages : List (List ℕ)) : Type 0 where
  pub count : length pages ≡ G.pages * G.banks
  pub each : Each (λ s page. Bytes 256 page) 0 pages

-- an image of a geometry whose every record is of its place
pub record Readable (t : Twofish) (G : Geometry) (image : List ℕ) : Type 0 where
  pub long : length image ≡ image_length G
  pub byte : (i : ℕ) → get_or image i 0 < 256
  pub own : (bank page : ℕ) → bank < G.banks → page < G.pages → looked (deciphered t) bank page (record_at G bank page image) ≡ true

-- the pages that the first n records hold
unfoldable pub first_pages : Twofish → ℕ → List ℕ → List (List ℕ)
first_pages t zero image = []
first_pages t (suc n) image = page_of (deciphered t) (take 272 image) ∷ first_pages t n (drop 272 image)

-- the pages of an image
unfoldable pub pages_of : Twofish → Geometry → List ℕ → List (List ℕ)
pages_of t G image = first_pages t (G.pages * G.banks) image
