-- The plain image by its slots, of which some may hold no page: what calls do to it, its sealing afresh, and the slots of any image.
use Rattle.std.specs.Prelude.{◌≡◌, false, List, [], ◌∷◌, ◌++◌, ℕ, zero, suc, ◌*◌, ◌/◌, ◌%◌, cond, length, take, drop, set, get_or}
use Rattle.spans.specs.Bytes.{Bytes}
use Rattle.spans.specs.Parts.{splice}
use Rattle.spans.specs.Refusals.{given}
use Rattle.twofish.specs.declared.Location.{Location}
use Rattle.twofish.specs.declared.Twofish.{Twofish}
use Rattle.twofish.specs.Answers.{nowhere}
use Rattle.block.specs.Block.{enciphered, deciphered}
use Rattle.sealed.specs.declared.Geometry.{Geometry}
use Rattle.sealed.specs.declared.Seen.{Seen}
use Rattle.sealed.specs.declared.Seen.TheVariants.{Own}
use Rattle.sealed.specs.Record.{filled, sealed, looked, whose, page_of}
use Rattle.sealed.specs.Image.{slot, image_length, look_refusals, other_place, seal_number}
use Rattle.history.specs.Calls.{Call, Seal, Patch, Read, Acts, before_look}
use Rattle.history.specs.Order.{in_order, Each}

-- a slot holds the plain page of a record that is readable, or 272 bytes that are not the record of their place
pub data Slot : Type 0 where
  Page : List ℕ → Slot
  Raw : List ℕ → Slot

-- the page that a slot holds
abbrev pub held : Slot → List ℕ
held (Page page) = page
held (Raw bytes) = []

-- the slot of a page of a bank
unfoldable pub slot_of : Geometry → ℕ → ℕ → List Slot → Slot
slot_of G bank page slots = get_or slots (slot G bank page) (Raw [])

-- whose record a look at a bank's page finds in a slot: the place's own exactly where the slot holds a page
unfoldable pub slot_whose : Twofish → ℕ → ℕ → Slot → Seen
slot_whose t bank page (Page plain) = Own
slot_whose t bank page (Raw bytes) = whose (deciphered t) bank page bytes

unfoldable pub slot_seen : Twofish → Geometry → List Slot → ℕ → ℕ → Seen
slot_seen t G slots bank offset = slot_whose t bank (offset / 256) (slot_of G bank (offset / 256) slots)

-- the number of read's and patch's refusal: 8 or 11 exactly where the slot holds no page, and no number before them is given
unfoldable pub slot_access : Twofish → Geometry → List Slot → ℕ → ℕ → ℕ → ℕ
slot_access t G slots bank offset n = given (before_look t G bank offset n ++ look_refusals (slot_seen t G slots bank offset))

unfoldable pub slots_number : Twofish → Geometry → Call → List Slot → ℕ
slots_number t G (Seal bank page plain) slots = seal_number t G (image_length G) bank page (length plain)
slots_number t G (Patch bank offset bytes) slots = slot_access t G slots bank offset (length bytes)
slots_number t G (Read bank offset out) slots = slot_access t G slots bank offset (length out)

unfoldable pub slots_place : Twofish → Geometry → Call → List Slot → Location
slots_place t G (Seal bank page plain) slots = nowhere
slots_place t G (Patch bank offset bytes) slots = other_place (slot_seen t G slots bank offset)
slots_place t G (Read bank offset out) slots = other_place (slot_seen t G slots bank offset)

-- a read hands out the page's bytes from its offset on
unfoldable pub slots_bytes : Geometry → Call → List Slot → List ℕ
slots_bytes G (Seal bank page plain) slots = []
slots_bytes G (Patch bank offset bytes) slots = []
slots_bytes G (Read bank offset out) slots = take (length out) (drop (offset % 256) (held (slot_of G bank (offset / 256) slots)))

-- a seal sets its slot to the filled page, and a patch to the page with its bytes laid over
unfoldable pub slots_next : Geometry → Call → List Slot → List Slot
slots_next G (Seal bank page plain) slots = set slots (slot G bank page) (Page (filled plain))
slots_next G (Patch bank offset bytes) slots =
    set slots (slot G bank (offset / 256)) (Page (splice (offset % 256) bytes (held (slot_of G bank (offset / 256) slots))))
slots_next G (Read bank offset out) slots = slots

abbrev pub on_slots : Twofish → Geometry → Acts (List Slot)
on_slots t G = record { number = slots_number t G; place = slots_place t G; bytes = slots_bytes G; next = slots_next G }

-- the record of slot s: its page sealed under its place, or its bytes as they are
unfoldable pub slot_record : Twofish → Geometry → ℕ → Slot → List ℕ
slot_record t G s (Page page) = sealed (enciphered t) (s / G.pages) (s % G.pages) page
slot_record t G s (Raw bytes) = bytes

-- the sealing afresh of slots
unfoldable pub image_of : Twofish → Geometry → List Slot → List ℕ
image_of t G slots = in_order (slot_record t G) 0 slots

-- what slot s can hold: a page of 256 bytes, or 272 bytes that are not the record of its place
unfoldable pub Right : Twofish → Geometry → ℕ → Slot → Type 0
Right t G s (Page page) = Bytes 256 page
Right t G s (Raw bytes) = (length bytes ≡ 272) × (looked (deciphered t) (s / G.pages) (s % G.pages) bytes ≡ false)

-- slots of the right number, each of which holds what it can
pub record Slots (t : Twofish) (G : Geometry) (slots : List Slot) : Type 0 where
  pub count : length slots ≡ G.pages * G.banks
  pub each : Each (Right t G) 0 slots

-- what 272 bytes are in slot s: the page that they hold, where they are the record of their place
unfoldable pub seen : Twofish → Geometry → ℕ → List ℕ → Slot
seen t G s bytes = cond (looked (deciphered t) (s / G.pages) (s % G.pages) bytes) (Page (page_of (deciphered t) bytes)) (Raw bytes)

-- n slots of an image from slot s on
unfoldable pub view : Twofish → Geometry → ℕ → ℕ → List ℕ → List Slot
view t G s zero image = []
view t G s (suc n) image = seen t G s (take 272 image) ∷ view t G (suc s) n (drop 272 image)

-- the slots of an image
unfoldable pub slots_of : Twofish → Geometry → List ℕ → List Slot
slots_of t G image = view t G 0 (G.pages * G.banks) image
