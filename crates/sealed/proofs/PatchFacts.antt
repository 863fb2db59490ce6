-- What an accepted patch leaves: every byte outside its record, and in it every byte before the first block that it writes into. On any image, whatever its
-- other records are.
use Rattle.std.proofs.Common.{◌≡◌, ℕ, ◌+◌, ◌-◌, ◌*◌, ◌/◌, ◌%◌, ◌<◌, ◌≤◌, List, ◌++◌, eqb, cond, length, take, drop, replicate, true, refl, sym, ap, ap₂, subst, ◌∙◌, arith, length-drop}
use Rattle.std.proofs.lemmas.Bool.{cases_lt}
use Rattle.std.proofs.lemmas.Bool.Decides.{eqb_tells}
use Rattle.std.proofs.lemmas.List.{drop-drop, drop-take, take-take}
use Rattle.std.proofs.Math.Logic.{⊎_elim}
use Rattle.std.proofs.Math.Nat.{eq-or-lt_of_le}
use lib.Pointwise.{pointwise, bytes_decides}
use lib.Seq.{length-take-le, take_at, take-add}
use Rattle.spans.specs.Parts.{splice}
use Rattle.spans.proofs.BytesLaws.{AllBytes, AllBytes-append, AllBytes-drop, AllBytes-take}
use Rattle.spans.proofs.PartsLaws.{splice-length, take_within, take_before, drop-splice, splice_same}
use Rattle.twofish.specs.declared.Twofish.{Twofish}
use Rattle.block.specs.Block.{enciphered, deciphered, Schedule}
use Rattle.block.proofs.Bytes16.{deciphered-bytes}
use Rattle.block.proofs.Undone.{redone}
use Rattle.block.proofs.ThereAndBack.{enciphered-length}
use Rattle.sealed.specs.declared.Geometry.{Geometry}
use Rattle.sealed.specs.Cbc.{cbc, uncbc}
use Rattle.sealed.specs.declared.Seen.{Seen}
use Rattle.sealed.specs.declared.Seen.TheVariants.{Own, Other, NoPlace}
use Rattle.sealed.specs.Record.{place_block, sealed, looked, names_place, place_named, whose, page_of}
use Rattle.spans.specs.Refusals.{given}
use Rattle.sealed.specs.Image.{offset_reached, within_page, refusals, slot, record_at, sealed_in, seen_at, look_refusals, patched_in, access_number}
use Rattle.sealed.proofs.RecordLaws.{sealed-length}
use Rattle.sealed.proofs.OpenLaws.{page_of-length, sealing}
use Rattle.sealed.proofs.PageLaws.{sealed-bytes}
use Rattle.sealed.proofs.PatchLaws.{overlaid, patched}
use Rattle.sealed.proofs.AccessLaws.{Opens, accessed}

module _ (t : Twofish) (G : Geometry) (image : List ℕ) (bank offset : ℕ) (bytes : List ℕ) (s : Schedule t) (byte : AllBytes image)
    (k : 0 ≡ access_number t G image bank offset (length bytes)) where
  abbrev E : List ℕ → List ℕ
  E = enciphered t

  abbrev D : List ℕ → List ℕ
  D = deciphered t

  abbrev at : ℕ
  at = 272 * slot G bank (offset / 256)

  abbrev q : ℕ
  q = offset % 256

  abbrev i : ℕ
  i = offset % 256 / 16

  -- the record, and what it is replaced by
  abbrev r : List ℕ
  r = record_at G bank (offset / 256) image

  abbrev v : List ℕ
  v = sealed E bank (offset / 256) (splice q bytes (page_of D r))

  taken : Opens t G (length image) bank offset (length bytes)
  taken = (accessed t G image bank offset (length bytes) k).0

  its_own : looked D bank (offset / 256) r ≡ true
  its_own = (accessed t G image bank offset (length bytes) k).1

  room : at + 272 ≤ length image
  room = taken.room

  r-long : length r ≡ 272
  unfolding record_at
  r-long = length-take-le 272 (drop at image) (omega (arith, room, length-drop at image))

  r-bytes : AllBytes r
  unfolding record_at
  r-bytes = AllBytes-take 272 (drop at image) (AllBytes-drop at image byte)

  page-long : length (page_of D r) ≡ 256
  page-long = page_of-length t r r-long

  v-long : length v ≡ 272
  v-long =
      let fresh = splice-length q bytes (page_of D r) (omega (arith, taken.inside, page-long)) ∙ page-long in
      sealed-length E bank (offset / 256) (splice q bytes (page_of D r)) (enciphered-length t) (omega (arith, fresh))

  fits : at + length v ≤ length image
  fits = omega (arith, v-long, room)

  -- where the first block that it writes into begins
  abbrev pub first_block : ℕ
  first_block = 272 * slot G bank (offset / 256) + (16 + 16 * (offset % 256 / 16))

  abbrev pub after : List ℕ
  after = patched_in (enciphered t) (deciphered t) G bank offset bytes image

  written : after ≡ splice at v image
  unfolding patched_in sealed_in
  written = refl

  front : take (16 + 16 * i) v ≡ take (16 + 16 * i) r
  front =
      let c : List ℕ = take 16 (drop (16 * i) r) in
      let m : ℕ = 16 - i in
      let X : List ℕ = cbc E c m (splice (q % 16) bytes (uncbc D c m (drop (16 + 16 * i) r))) in
      let place : 16 + (16 * i + q % 16) ≡ 16 + q = omega arith in
      let made : take (16 + 16 * i) r ++ X ≡ v =
      overlaid E D (deciphered-bytes t) (λ l h. redone t l s h) i (q % 16) bytes r r-long r-bytes (omega arith)
      ∙ ap (λ (n : ℕ). cbc E (replicate 16 0) 17 (splice n bytes (uncbc D (replicate 16 0) 17 r))) place
      ∙ patched t bank (offset / 256) q bytes r r-long taken.inside its_own in
      ap (take (16 + 16 * i)) (sym made) ∙ take_at (take (16 + 16 * i) r) X (16 + 16 * i) (length-take-le (16 + 16 * i) r (omega (arith, r-long)))

  -- no byte before that block changes
  pub before_first_block : take first_block after ≡ take first_block image
  unfolding record_at
  before_first_block =
      ap (take first_block) written
      ∙ take_within at v image fits (16 + 16 * i) (omega (arith, v-long))
      ∙ ap (λ (l : List ℕ). take at image ++ l) (front ∙ take-take (16 + 16 * i) 272 (drop at image) (omega arith))
      ∙ sym (take-add at (16 + 16 * i) image)

  -- nor any byte after its record
  pub after_record : drop (272 * slot G bank (offset / 256) + 272) after ≡ drop (272 * slot G bank (offset / 256) + 272) image
  after_record =
      ap (drop (at + 272)) written
      ∙ ap (λ (n : ℕ). drop (at + n) (splice at v image)) (sym v-long)
      ∙ drop-splice at v image fits
      ∙ ap (λ (n : ℕ). drop (at + n) image) v-long

  -- no other record changes
  pub other_record : (n : ℕ) → (n ≡ slot G bank (offset / 256) → ⊥) → take 272 (drop (272 * n) after) ≡ take 272 (drop (272 * n) image)
  other_record n other = ⊎_elim earlier later (cases_lt n (slot G bank (offset / 256)))
    where
      earlier : n < slot G bank (offset / 256) → take 272 (drop (272 * n) after) ≡ take 272 (drop (272 * n) image)
      earlier h =
          sym (drop-take (272 * n) 272 after)
          ∙ ap (drop (272 * n)) (ap (take (272 * n + 272)) written ∙ take_before at v image fits (272 * n + 272) (omega (arith, h)))
          ∙ drop-take (272 * n) 272 image

      later : slot G bank (offset / 256) ≤ n → take 272 (drop (272 * n) after) ≡ take 272 (drop (272 * n) image)
      later h =
          let m : ℕ = 272 * n - (at + 272) in
          let on : at + 272 + m ≡ 272 * n = omega (arith, beyond) in
          ap (λ (j : ℕ). take 272 (drop j after)) (sym on)
          ∙ ap (take 272) (sym (drop-drop m (at + 272) after) ∙ ap (drop m) after_record ∙ drop-drop m (at + 272) image)
          ∙ ap (λ (j : ℕ). take 272 (drop j image)) on
        where
          beyond : slot G bank (offset / 256) < n
          beyond = ⊎_elim (λ e. absurd (other (sym e))) (λ b. b) (eq-or-lt_of_le h)

  -- nor the first block of any record, its own too
  first_kept : (n : ℕ) → take 16 (drop (272 * n) after) ≡ take 16 (drop (272 * n) image)
  first_kept n = ⊎_elim (λ h. mine h.1) (λ h. others h.1) (eqb_tells n (slot G bank (offset / 256)))
    where
      mine : n ≡ slot G bank (offset / 256) → take 16 (drop (272 * n) after) ≡ take 16 (drop (272 * n) image)
      mine e =
          ap (λ (m : ℕ). take 16 (drop (272 * m) after)) e
          ∙ sym (drop-take at 16 after)
          ∙ ap (drop at)
          (sym (take-take (at + 16) first_block after (omega arith))
          ∙ ap (take (at + 16)) before_first_block
          ∙ take-take (at + 16) first_block image (omega arith))
          ∙ drop-take at 16 image
          ∙ ap (λ (m : ℕ). take 16 (drop (272 * m) image)) (sym e)

      others : (n ≡ slot G bank (offset / 256) → ⊥) → take 16 (drop (272 * n) after) ≡ take 16 (drop (272 * n) image)
      others e =
          sym (take-take 16 272 (drop (272 * n) after) (omega arith))
          ∙ ap (take 16) (other_record n e)
          ∙ take-take 16 272 (drop (272 * n) image) (omega arith)

  after-length : length after ≡ length image
  after-length = ap length written ∙ splice-length at v image fits

  -- so every look says what it said
  pub seen_kept : (b o : ℕ) → seen_at t G after b o ≡ seen_at t G image b o
  unfolding seen_at whose record_at looked
  seen_kept b o =
      let j : ℕ = slot G b (o / 256) in
      let block : take 16 (take 272 (drop (272 * j) after)) ≡ take 16 (take 272 (drop (272 * j) image)) =
      take-take 16 272 (drop (272 * j) after) (omega arith) ∙ first_kept j ∙ sym (take-take 16 272 (drop (272 * j) image) (omega arith)) in
      ap
      (λ (l : List ℕ).
      cond (pointwise eqb (D l) (place_block b (o / 256))) Own (cond (names_place (D l)) (Other (place_named (D l))) NoPlace))
      block

  -- and every call is refused as before, or not at all
  pub number_kept : (b o n : ℕ) → access_number t G after b o n ≡ access_number t G image b o n
  unfolding access_number
  number_kept b o n =
      ap₂ (λ (m : ℕ) (s : Seen). given (refusals t G m (offset_reached G b o) (within_page o n) ++ look_refusals s)) after-length (seen_kept b o)

  -- bytes stay bytes
  pub bytes_after : AllBytes after
  unfolding splice
  bytes_after =
      let whole = splice-length q bytes (page_of D r) (omega (arith, taken.inside, page-long)) ∙ page-long in
      subst AllBytes (sym written)
      (AllBytes-append (take at image) _ (AllBytes-take at image byte)
      (AllBytes-append v _ (sealed-bytes t bank (offset / 256) (splice q bytes (page_of D r)) (omega (arith, whole))) (AllBytes-drop (at + length v) image byte)))

  -- bytes that are there already change nothing
  pub there_already : take (length bytes) (drop (offset % 256) (page_of (deciphered t) (record_at G bank (offset / 256) image))) ≡ bytes → after ≡ image
  unfolding record_at looked
  there_already e =
      let same : splice q bytes (page_of D r) ≡ page_of D r =
      ap (λ (l : List ℕ). splice q l (page_of D r)) (sym e) ∙ splice_same q (length bytes) (page_of D r) (omega (arith, taken.inside, page-long)) in
      let kept : v ≡ r = ap (sealed E bank (offset / 256)) same ∙ sym (sealing t bank (offset / 256) r s r-long r-bytes ((bytes_decides _ _).0 its_own)) in
      written ∙ ap (λ (l : List ℕ). splice at l image) kept ∙ splice_same at 272 image room
