-- Laws of the opening, of a slot's line, and of the whole listing.
use Rattle.std.proofs.Common.{◌≡◌, ℕ, ◌+◌, ◌*◌, ◌<◌, ◌≤◌, Bool, true, false, cond, Option, Some, None, List, [], ◌++◌, refl, ap, ap₂, ◌∙◌, length, take, drop, length-take, length-drop, add-one, arith}
use Rattle.std.specs.Prelude.{Result, Ok, Err, codes}
use Rattle.std.specs.Result.{result_unwrap_or}
use Rattle.std.specs.Int.{from_bool}
use borrow.Author.Tests.{lt-ltb, le-ltb}
use Rattle.twofish.specs.declared.Twofish.{Twofish}
use Rattle.twofish.specs.declared.Refusal.{Refusal}
use Rattle.twofish.specs.Schedule.{refused, handed_back}
use Rattle.sealed.specs.declared.Geometry.{Geometry}
use Rattle.listing.specs.declared.Opening.{Opening}
use Rattle.listing.specs.declared.Verdict.{Verdict}
use Rattle.listing.specs.Slot.{opening_length, opening, slots, bank_of, page_of, verdict, slot_verdict, is_right}
use Rattle.listing.specs.Listing.{ended, line, slot_line, lines, right_count, summary, extra, listed, listed_after, listing}

-- ---- the opening
-- the schedule that set-up hands back
pub schedule-handed : (r : Result Twofish Refusal) → result_unwrap_or r refused ≡ (handed_back r).schedule
unfolding handed_back
schedule-handed (Ok t) = refl
schedule-handed (Err e) = refl

-- ---- a slot
-- what is said of a slot, from the bytes that were taken for it
pub slot_verdict-taken : (o : Opening) (slot : ℕ) (rest bytes : List ℕ) (v : Verdict) → bytes ≡ take 272 rest
    → v ≡ verdict o.schedule (bank_of o.geometry slot) (page_of o.geometry slot) bytes → v ≡ slot_verdict o slot rest
unfolding slot_verdict
slot_verdict-taken o slot rest bytes v e h = h ∙ ap (verdict o.schedule (bank_of o.geometry slot) (page_of o.geometry slot)) e

pub slot_line-taken : (o : Opening) (slot : ℕ) (rest : List ℕ) (v : Verdict) → v ≡ slot_verdict o slot rest
    → line (bank_of o.geometry slot) (page_of o.geometry slot) v ≡ slot_line o slot rest
unfolding slot_line
slot_line-taken o slot rest v h = ap (line (bank_of o.geometry slot) (page_of o.geometry slot)) h

-- ---- the slots in order
pub lines-more : (o : Opening) (image : List ℕ) (n : ℕ) → lines o image (n + 1) ≡ lines o image n ++ slot_line o n (drop (272 * n) image)
unfolding lines
lines-more o image n = rw (add-one n)

-- a number that counts what passes a test
one-if : (b : Bool) → from_bool b ≡ cond b 1 0
one-if true = refl
one-if false = refl

pub from_bool-few : (b : Bool) → from_bool b ≤ 1
from_bool-few true = omega arith
from_bool-few false = omega arith

pub right_count-more : (o : Opening) (image : List ℕ) (n right : ℕ) (b : Bool) → right ≡ right_count o image n
    → b ≡ is_right (slot_verdict o n (drop (272 * n) image)) → right + from_bool b ≡ right_count o image (n + 1)
unfolding right_count
right_count-more o image n right b r e = rw add-one (ap₂ (λ (k : ℕ) (v : Bool). k + from_bool v) r e ∙ ap (λ k. right_count o image n + k) (one-if _))

-- ---- the whole
-- an opening that says nothing
pub listing-none : (input bytes : List ℕ) → bytes ≡ take opening_length input → None ≡ opening bytes → ended (codes "bad input") ≡ listing input
unfolding listing listed_after
listing-none input bytes e h = ap (λ (o : Option Opening). listed_after o (drop opening_length input)) (h ∙ ap opening e)

-- an opening that says something
pub listing-some : (o : Opening) (input bytes : List ℕ) → bytes ≡ take opening_length input → Some o ≡ opening bytes → listed o (drop opening_length input) ≡ listing input
unfolding listing listed_after
listing-some o input bytes e h = ap (λ (p : Option Opening). listed_after p (drop opening_length input)) (h ∙ ap opening e)

pub listed-written : (o : Opening) (image tail : List ℕ) → tail ≡ extra o.geometry image
    → (lines o image (slots o.geometry) ++ summary (right_count o image (slots o.geometry)) (slots o.geometry)) ++ tail ≡ listed o image
unfolding listed
listed-written o image tail t = ap (λ (l : List ℕ). (lines o image (slots o.geometry) ++ summary (right_count o image (slots o.geometry)) (slots o.geometry)) ++ l) t

-- whether a byte can be taken after the last slot
pub extra-some : (G : Geometry) (image more : List ℕ) (k : ℕ) → 0 < k → k ≤ length more → take k more ≡ take 1 (drop (272 * slots G) image)
    → ended (codes "extra") ≡ extra G image
extra-some G image more k h room e =
    let n = slots G in
    let f = simp (length-take, length-drop) at (ap length e) in
    let beyond : 272 * n < length image = omega arith in
    simp (lt-ltb _ _ beyond)

pub extra-none : (G : Geometry) (image more : List ℕ) (k : ℕ) → k ≤ 0 → take k more ≡ take 1 (drop (272 * slots G) image) → [] ≡ extra G image
extra-none G image more k h e =
    let n = slots G in
    let f = simp (length-take, length-drop) at (ap length e) in
    let within : length image ≤ 272 * n = omega arith in
    simp (le-ltb _ _ within)
