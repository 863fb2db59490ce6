-- The opening of the lister's input, the place of a slot, and what is said of a slot.
use Rattle.std.specs.Prelude.{Option, Some, None, Bool, true, false, List, ℕ, ◌+◌, ◌*◌, ◌/◌, ◌%◌, ltb, length, get_or, take, drop, cond}
use Rattle.twofish.specs.declared.Twofish.{Twofish}
use Rattle.twofish.specs.Schedule.{set_up}
use Rattle.sealed.specs.declared.Geometry.{Geometry}
use Rattle.sealed.specs.declared.Seen.{Seen}
use Rattle.sealed.specs.declared.Seen.TheVariants.{Own, Other, NoPlace}
use Rattle.sealed.specs.Record.{whose_answer}
use Rattle.listing.specs.declared.Opening.{Opening}
use Rattle.listing.specs.declared.Verdict.{Verdict}
use Rattle.listing.specs.declared.Verdict.TheVariants.{Right, Holds, Wrong, Missing}

-- the bytes before the image
abbrev pub opening_length : ℕ
opening_length = 34

-- what the opening says: a byte pages - 1, a byte banks - 1 and 32 key bytes; of fewer than 34 bytes nothing
unfoldable pub opening : List ℕ → Option Opening
opening bytes =
    cond (ltb (length bytes) opening_length) None
    (Some (record {
      geometry = record { pages = get_or bytes 0 0 + 1; banks = get_or bytes 1 0 + 1 };
      schedule = (set_up (take 32 (drop 2 bytes))).schedule;
    }))

-- the number of slots
abbrev pub slots : Geometry → ℕ
slots G = G.pages * G.banks

-- the bank and the page of a slot: slot = bank × pages + page
abbrev pub bank_of : Geometry → ℕ → ℕ
bank_of G slot = slot / G.pages

abbrev pub page_of : Geometry → ℕ → ℕ
page_of G slot = slot % G.pages

-- what is said of a record, by whose it is
abbrev pub verdict_of : Seen → Verdict
verdict_of Own = Right
verdict_of (Other l) = Holds l
verdict_of NoPlace = Wrong

-- what is said of the slot of a bank and a page for which these bytes were left
unfoldable pub verdict : Twofish → ℕ → ℕ → List ℕ → Verdict
verdict t bank page bytes = cond (ltb (length bytes) 272) Missing (verdict_of (whose_answer t bank page bytes))

-- the same of a slot at which the image has these bytes left: a record's are taken, or all where fewer are left
unfoldable pub slot_verdict : Opening → ℕ → List ℕ → Verdict
slot_verdict o slot rest = verdict o.schedule (bank_of o.geometry slot) (page_of o.geometry slot) (take 272 rest)

-- whether a slot counts as ok
abbrev pub is_right : Verdict → Bool
is_right Right = true
is_right (Holds l) = false
is_right Wrong = false
is_right Missing = false
