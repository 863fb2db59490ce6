-- A list of patches on an image: its refusals, and what making its patches one by one leaves and counts.
use Rattle.std.specs.Prelude.{Bool, Result, Ok, Err, List, [], ◌∷◌, ◌++◌, ℕ, suc, ◌+◌, eqb, ltb, cond, length, take, drop}
use Rattle.spans.specs.Refusals.{◌when◌, given}
use Rattle.twofish.specs.declared.Location.{Location}
use Rattle.twofish.specs.declared.Twofish.{Twofish}
use Rattle.twofish.specs.Answers.{nowhere, refusal_number, refusal_location}
use Rattle.block.specs.Block.{enciphered, deciphered}
use Rattle.sealed.specs.declared.Geometry.{Geometry}
use Rattle.sealed.specs.Image.{image_refusals, seen_at, other_place, access_number, patched_in, patch_count}
use Rattle.boxful.specs.declared.Patch.{Patch}
use Rattle.boxful.specs.declared.Refused.{Refused}
use Rattle.boxful.specs.declared.ListAnswer.{ListAnswer}

-- the bytes that a patch writes, of those that are lent
unfoldable pub written : Patch → List ℕ → List ℕ
written p lent = take p.length (drop p.start lent)

-- whether its start and length leave the bytes that are lent
unfoldable pub outside : Patch → List ℕ → Bool
outside p lent = ltb (length lent) (p.start + p.length)

-- the number of a patch's refusal on the image as it came: 9, and then that of the patch by itself
unfoldable pub item_number : Twofish → Geometry → List ℕ → List ℕ → Patch → ℕ
item_number t G image lent p = cond (outside p lent) 9 (access_number t G image p.bank p.offset p.length)

-- the number of a list's refusal as a whole: those of the image, and then 10, more than 64 patches
unfoldable pub whole_number : Twofish → Geometry → ℕ → ℕ → ℕ
whole_number t G long n = given (image_refusals t G long ++ 10 when ltb 64 n ∷ [])

-- the other place whose record its look found, where it is refused by 11
unfoldable pub item_held : Twofish → Geometry → List ℕ → List ℕ → Patch → Location
item_held t G image lent p = cond (eqb (item_number t G image lent p) 11) (other_place (seen_at t G image p.bank p.offset)) nowhere

-- a number, the place in the list that it is given at, and the other place whose record was found
pub record Judged : Type 0 where
  pub number : ℕ
  pub place : ℕ
  pub held : Location

-- the first patch from place i on that is refused, where f is the number of each and g what its look found: number 0 at place 0 where none is
unfoldable pub first_refused : (Patch → ℕ) → (Patch → Location) → ℕ → List Patch → Judged
first_refused f g i [] = record { number = 0; place = 0; held = nowhere }
first_refused f g i (p ∷ ps) = cond (eqb (f p) 0) (first_refused f g (suc i) ps) record { number = f p; place = i; held = g p }

-- what a list comes to: refused as a whole at place 0, or by its first patch that is refused
unfoldable pub judged : Twofish → Geometry → List ℕ → List Patch → List ℕ → Judged
judged t G image ps lent =
    cond (eqb (whole_number t G (length image) (length ps)) 0) (first_refused (item_number t G image lent) (item_held t G image lent) 0 ps)
    record { number = whole_number t G (length image) (length ps); place = 0; held = nowhere }

-- the image with the patches made one by one, in list order
unfoldable pub all_patched : Twofish → Geometry → List ℕ → List Patch → List ℕ → List ℕ
all_patched t G lent [] image = image
all_patched t G lent (p ∷ ps) image =
    all_patched t G lent ps (patched_in (enciphered t) (deciphered t) G p.bank p.offset (written p lent) image)

-- the sum of their counts
unfoldable pub all_counted : List Patch → ℕ
all_counted [] = 0
all_counted (p ∷ ps) = patch_count p.offset + all_counted ps

-- the answer to a list: a refusal counts 0
unfoldable pub list_answer : Judged → ℕ → ListAnswer
list_answer j c = record { number = j.number; count = cond (eqb j.number 0) c 0; place = j.place; bank = j.held.bank; page = j.held.page }

-- what an outcome answers
abbrev pub listed : Result ℕ Refused → ListAnswer
listed (Ok n) = record { number = 0; count = n; place = 0; bank = 0; page = 0 }
listed (Err e) =
    record {
      number = refusal_number e.refusal;
      count = 0;
      place = e.place;
      bank = (refusal_location e.refusal).bank;
      page = (refusal_location e.refusal).page;
    }
