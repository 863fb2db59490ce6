-- What the lister writes for its input.
use Rattle.std.specs.Prelude.{Option, Some, None, List, [], ◌∷◌, ◌++◌, ℕ, zero, suc, ◌+◌, ◌*◌, ◌/◌, ◌%◌, ltb, length, take, drop, cond, codes}
use Rattle.std.specs.Fmt.{decimal}
use Rattle.sealed.specs.declared.Geometry.{Geometry}
use Rattle.listing.specs.declared.Opening.{Opening}
use Rattle.listing.specs.declared.Verdict.{Verdict}
use Rattle.listing.specs.declared.Verdict.TheVariants.{Right, Holds, Wrong, Missing}
use Rattle.listing.specs.Slot.{opening_length, opening, slots, bank_of, page_of, slot_verdict, is_right}

-- the byte of a hex digit: 0 to 9, then the lower-case letters from a on
abbrev pub hex_digit : ℕ → ℕ
hex_digit d = cond (ltb d 10) (48 + d) (87 + d)

-- the last two hex digits of a number
abbrev pub two_digits : ℕ → List ℕ
two_digits n = hex_digit (n / 16 % 16) ∷ hex_digit (n % 16) ∷ []

-- a place: bank and page with a colon between
abbrev pub place_text : ℕ → ℕ → List ℕ
place_text bank page = two_digits bank ++ codes ":" ++ two_digits page

-- what is said of a slot
abbrev pub said : Verdict → List ℕ
said Right = codes "ok"
said (Holds l) = codes "holds " ++ place_text l.bank l.page
said Wrong = codes "wrong"
said Missing = codes "missing"

-- a line ends with a line feed
abbrev pub ended : List ℕ → List ℕ
ended text = text ++ 10 ∷ []

-- the line of a slot: its place, a space, and what is said of it
unfoldable pub line : ℕ → ℕ → Verdict → List ℕ
line bank page v = place_text bank page ++ codes " " ++ ended (said v)

-- the line after those of the slots: N of them are ok, of M
unfoldable pub summary : ℕ → ℕ → List ℕ
summary n m = ended (codes "ok " ++ decimal n ++ codes " of " ++ decimal m)

-- the line of a slot at which the image has these bytes left
unfoldable pub slot_line : Opening → ℕ → List ℕ → List ℕ
slot_line o slot rest = line (bank_of o.geometry slot) (page_of o.geometry slot) (slot_verdict o slot rest)

-- ---- over the image, for an opening
-- the lines of the first n slots, in slot order
unfoldable pub lines : Opening → List ℕ → ℕ → List ℕ
lines o image zero = []
lines o image (suc n) = lines o image n ++ slot_line o n (drop (272 * n) image)

-- how many of the first n slots are ok
unfoldable pub right_count : Opening → List ℕ → ℕ → ℕ
right_count o image zero = 0
right_count o image (suc n) = right_count o image n + cond (is_right (slot_verdict o n (drop (272 * n) image))) 1 0

-- the line after the summary, where bytes remain after the last slot
abbrev pub extra : Geometry → List ℕ → List ℕ
extra G image = cond (ltb (272 * slots G) (length image)) (ended (codes "extra")) []

-- all that is written after an opening
unfoldable pub listed : Opening → List ℕ → List ℕ
listed o image = lines o image (slots o.geometry) ++ summary (right_count o image (slots o.geometry)) (slots o.geometry) ++ extra o.geometry image

-- what is written of an opening and the image after it
unfoldable pub listed_after : Option Opening → List ℕ → List ℕ
listed_after None image = ended (codes "bad input")
listed_after (Some o) image = listed o image

-- all that the lister writes for its input
unfoldable pub listing : List ℕ → List ℕ
listing input = listed_after (opening (take opening_length input)) (drop opening_length input)
