-- Calls of seal, patch and read, on a state of any kind and in any series; and what they do to an image.
use Rattle.std.specs.Prelude.{List, [], ◌∷◌, ℕ, ◌<◌, eqb, cond, length, get_or}
use Rattle.spans.specs.Refusals.{Line, leaves}
use Rattle.twofish.specs.declared.Answer.{Answer}
use Rattle.twofish.specs.declared.Location.{Location}
use Rattle.twofish.specs.declared.Twofish.{Twofish}
use Rattle.twofish.specs.Answers.{nowhere, answer_at}
use Rattle.block.specs.Block.{enciphered, deciphered}
use Rattle.sealed.specs.declared.Geometry.{Geometry}
use Rattle.sealed.specs.Image.{image_length, offset_reached, within_page, refusals, seal_number, seen_at, other_place, access_number, patch_count, sealed_in, patched_in, read_from}

-- seal takes a bank, a page and plain bytes, patch a bank, an offset and bytes, and read a bank, an offset and the bytes lent for its answer
pub data Call : Type 0 where
  Seal : ℕ → ℕ → List ℕ → Call
  Patch : ℕ → ℕ → List ℕ → Call
  Read : ℕ → ℕ → List ℕ → Call

-- what a call counts where it is done
unfoldable pub count : Call → ℕ
count (Seal bank page plain) = 17
count (Patch bank offset bytes) = patch_count offset
count (Read bank offset out) = 0

-- the bytes lent to a call for its answer
unfoldable pub lent : Call → List ℕ
lent (Seal bank page plain) = []
lent (Patch bank offset bytes) = []
lent (Read bank offset out) = out

-- the bytes that a call writes are bytes
unfoldable pub WritesBytes : Call → Type 0
WritesBytes (Seal bank page plain) = (i : ℕ) → get_or plain i 0 < 256
WritesBytes (Patch bank offset bytes) = (i : ℕ) → get_or bytes i 0 < 256
WritesBytes (Read bank offset out) = Unit {0}

-- calls on a state: the number of a call's refusal, 0 where it is done, and the other place whose record its look found; and where it is done the bytes
-- that it hands out, and the next state
pub record Acts (S : Type 0) : Type 0 where
  pub number : Call → S → ℕ
  pub place : Call → S → Location
  pub bytes : Call → S → List ℕ
  pub next : Call → S → S

-- what comes of a call: its answer, and the lent bytes afterwards
pub record Outcome : Type 0 where
  pub answer : Answer
  pub out : List ℕ

module _ {S : Type 0} (acts : Acts S) where
  -- a refusal counts 0 and changes no lent byte
  unfoldable pub outcome : Call → S → Outcome
  outcome c s = record { answer = answer_at (acts.place c s) (acts.number c s) (count c); out = leaves (acts.number c s) (acts.bytes c s) (lent c) }

  -- the state after a call; a refusal leaves it as it was
  unfoldable pub after : Call → S → S
  after c s = cond (eqb (acts.number c s) 0) (acts.next c s) s

  -- what comes of the calls of a series, in order
  unfoldable pub outcomes : List Call → S → List Outcome
  outcomes [] s = []
  outcomes (c ∷ cs) s = outcome c s ∷ outcomes cs (after c s)

  -- the state at the end of a series
  unfoldable pub at_end : List Call → S → S
  at_end [] s = s
  at_end (c ∷ cs) s = at_end cs (after c s)

-- the refusals of a patch or a read before its look at a record, in an image of the right length
unfoldable pub before_look : Twofish → Geometry → ℕ → ℕ → ℕ → List Line
before_look t G bank offset n = refusals t G (image_length G) (offset_reached G bank offset) (within_page offset n)

-- calls on an image, by the definitions that the contracts of seal, patch and read name
unfoldable pub image_number : Twofish → Geometry → Call → List ℕ → ℕ
image_number t G (Seal bank page plain) image = seal_number t G (length image) bank page (length plain)
image_number t G (Patch bank offset bytes) image = access_number t G image bank offset (length bytes)
image_number t G (Read bank offset out) image = access_number t G image bank offset (length out)

unfoldable pub image_place : Twofish → Geometry → Call → List ℕ → Location
image_place t G (Seal bank page plain) image = nowhere
image_place t G (Patch bank offset bytes) image = other_place (seen_at t G image bank offset)
image_place t G (Read bank offset out) image = other_place (seen_at t G image bank offset)

unfoldable pub image_bytes : Twofish → Geometry → Call → List ℕ → List ℕ
image_bytes t G (Seal bank page plain) image = []
image_bytes t G (Patch bank offset bytes) image = []
image_bytes t G (Read bank offset out) image = read_from (deciphered t) G bank offset (length out) image

unfoldable pub image_next : Twofish → Geometry → Call → List ℕ → List ℕ
image_next t G (Seal bank page plain) image = sealed_in (enciphered t) G bank page plain image
image_next t G (Patch bank offset bytes) image = patched_in (enciphered t) (deciphered t) G bank offset bytes image
image_next t G (Read bank offset out) image = image

abbrev pub on_image : Twofish → Geometry → Acts (List ℕ)
on_image t G = record { number = image_number t G; place = image_place t G; bytes = image_bytes t G; next = image_next t G }
