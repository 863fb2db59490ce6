-- What a report says of the slots of two images: the same, changed, unreadable; which slots it counts, and how many.
use Rattle.std.specs.Prelude.{◌≡◌, Bool, true, false, not, ◌&&◌, ◌||◌, List, ℕ, ◌*◌, ◌/◌, ◌%◌, eqb}
use lib.Pointwise.{pointwise}
use Rattle.twofish.specs.declared.Twofish.{Twofish}
use Rattle.block.specs.Block.{deciphered}
use Rattle.sealed.specs.declared.Geometry.{Geometry}
use Rattle.sealed.specs.declared.Seen.{Seen}
use Rattle.sealed.specs.declared.Seen.TheVariants.{Own}
use Rattle.sealed.specs.Record.{page_of}
use Rattle.sealed.specs.Image.{reached, record_at, seen_at, is_no_place, is_other}
use Rattle.masks.specs.Masks.{how_many}
use Rattle.report.specs.declared.Compared.{Compared}
use Rattle.report.specs.declared.Compared.TheVariants.{Same, Changed, Unreadable}

-- which slots a report counts: that of every page of every bank
unfoldable pub counts : Geometry → ℕ → ℕ → Bool
counts G bank page = reached G bank page

-- whose record a look from the front of a page finds in its slot
unfoldable pub seen : Twofish → Geometry → List ℕ → ℕ → ℕ → Seen
seen t G image bank page = seen_at t G image bank (256 * page)

-- a slot can be read where its record is its place's own; its plain bytes are the page of that record
abbrev pub is_own : Seen → Bool
is_own Own = true
is_own s = false

unfoldable pub plain : Twofish → Geometry → List ℕ → ℕ → ℕ → List ℕ
plain t G image bank page = page_of (deciphered t) (record_at G bank page image)

-- the same: it can be read in both images, and its plain bytes are equal
unfoldable pub is_same : Twofish → Geometry → List ℕ → List ℕ → ℕ → ℕ → Bool
is_same t G old new bank page =
    is_own (seen t G old bank page) && is_own (seen t G new bank page) && pointwise eqb (plain t G old bank page) (plain t G new bank page)

-- changed: it can be read in both images, and its plain bytes differ
unfoldable pub is_changed : Twofish → Geometry → List ℕ → List ℕ → ℕ → ℕ → Bool
is_changed t G old new bank page =
    is_own (seen t G old bank page) && is_own (seen t G new bank page) && not (pointwise eqb (plain t G old bank page) (plain t G new bank page))

-- unreadable: a look finds no place's record, 8, or another place's, 11, in either image
abbrev pub is_refused : Seen → Bool
is_refused s = is_no_place s || is_other s

unfoldable pub is_unreadable : Twofish → Geometry → List ℕ → List ℕ → ℕ → ℕ → Bool
is_unreadable t G old new bank page = is_refused (seen t G old bank page) || is_refused (seen t G new bank page)

-- what is found of a slot says which of the three it is
abbrev pub finds_same : Compared → Bool
finds_same Same = true
finds_same c = false

abbrev pub finds_changed : Compared → Bool
finds_changed Changed = true
finds_changed c = false

abbrev pub finds_unreadable : Compared → Bool
finds_unreadable Unreadable = true
finds_unreadable c = false

pub record Finds (t : Twofish) (G : Geometry) (old new : List ℕ) (bank page : ℕ) (found : Compared) : Type 0 where
  pub same : finds_same found ≡ is_same t G old new bank page
  pub changed : finds_changed found ≡ is_changed t G old new bank page
  pub unreadable : finds_unreadable found ≡ is_unreadable t G old new bank page

-- whether a page of a bank counts and changed
unfoldable pub page_changed : Twofish → Geometry → List ℕ → List ℕ → ℕ → ℕ → Bool
page_changed t G old new bank page = counts G bank page && is_changed t G old new bank page

-- whether a slot counts and passes a test on its bank and page
unfoldable pub slot_that : Geometry → (ℕ → ℕ → Bool) → ℕ → Bool
slot_that G f slot = counts G (slot / G.pages) (slot % G.pages) && f (slot / G.pages) (slot % G.pages)

-- how many slots do
unfoldable pub slots_that : Geometry → (ℕ → ℕ → Bool) → ℕ
slots_that G f = how_many (slot_that G f) (G.pages * G.banks)
