-- Laws of a call that reads or writes within a page: what its numbers need, and its refusals by what its tests and its look say.
use Rattle.std.proofs.Common.{◌≡◌, ℕ, ◌+◌, ◌*◌, ◌-◌, ◌/◌, ◌%◌, ◌<◌, ◌≤◌, Bool, true, false, cond, eqb, ◌&&◌, List, [], ◌++◌, length, take, drop, refl, sym, ap, ap₂, ◌∙◌, arith}
use Rattle.std.proofs.lemmas.Bool.{leb-true}
use borrow.Author.Tests.{lt-ltb, ltb-true, ne_eqb}
use Rattle.spans.specs.Refusals.{Line, given}
use Rattle.spans.proofs.RefusalLaws.{NoneHolds, given_after, given_kept, given_other, never_given}
use Rattle.twofish.specs.declared.Location.{Location}
use Rattle.twofish.specs.declared.Refusal.{Refusal}
use Rattle.twofish.specs.declared.Twofish.{Twofish}
use Rattle.twofish.specs.Answers.{nowhere, told, answer, answer_at, refused_answer}
use Rattle.twofish.proofs.AnswerLaws.{never_done}
use Rattle.block.specs.Block.{deciphered}
use Rattle.sealed.specs.declared.Geometry.{Geometry}
use Rattle.sealed.specs.declared.Seen.{Seen}
use Rattle.sealed.specs.declared.Seen.TheVariants.{Own, Other, NoPlace}
use Rattle.sealed.specs.Record.{looked, names_place, place_named, whose}
use Rattle.sealed.specs.Image.{reached, offset_reached, within_page, slot, record_at, image_refusals, refusals, seen_at, look_refusals, other_place, access_number, access_answer}
use Rattle.sealed.proofs.ImageLaws.{both, up_to_256-true, There, slot-room, taken, record_slice, slice-length}
use Rattle.sealed.proofs.OutcomeLaws.{recounted, refused_number, done_count}

-- what holds of a call that is taken up to its look
pub record Opens (t : Twofish) (G : Geometry) (long bank offset n : ℕ) : Type 0 where
  pub start : t.start ≤ 2
  pub there : There G bank (offset / 256)
  pub reaches : reached G bank (offset / 256) ≡ true
  pub room : 272 * slot G bank (offset / 256) + 272 ≤ long
  pub small : long ≤ 17825792
  pub some : 0 < n
  pub inside : offset % 256 + n ≤ 256

pub opens :
    {t : Twofish} {G : Geometry} {long bank offset n : ℕ} {placed fits : Bool} → placed ≡ offset_reached G bank offset → fits ≡ within_page offset n
    → 0 ≡ given (refusals t G long placed fits) → Opens t G long bank offset n
unfolding offset_reached within_page reached
opens {t} {G} {long} {bank} {offset} {n} {placed} {fits} p f e =
    let k = taken t G long placed fits (sym e) in
    let at = both _ _ (sym p ∙ k.at_place) in
    let banked : bank < G.banks = ltb-true _ _ at.0 in
    let within : offset < 256 * G.pages = ltb-true _ _ at.1 in
    let paged : offset / 256 < G.pages = omega (arith, within) in
    let there : There G bank (offset / 256) = record { geometry = k.geometry; banked = banked; paged = paged } in
    let bytes = both _ _ (sym f ∙ k.fitting) in
    record {
      start = k.start;
      there = there;
      reaches = ap₂ ◌&&◌ (lt-ltb _ _ banked) (lt-ltb _ _ paged);
      room = omega (arith, slot-room there, k.whole);
      small = k.small;
      some = (up_to_256-true n bytes.0).0;
      inside = leb-true _ _ bytes.1;
    }

module _ (t : Twofish) (G : Geometry) (image : List ℕ) (bank offset n : ℕ) {placed fits : Bool} (p : placed ≡ offset_reached G bank offset)
    (f : fits ≡ within_page offset n) where
  first : List Line
  first = refusals t G (length image) placed fits

  same : given (first ++ look_refusals (seen_at t G image bank offset)) ≡ access_number t G image bank offset n
  unfolding access_number first
  same = ap₂ (λ (x y : Bool). given (refusals t G (length image) x y ++ look_refusals (seen_at t G image bank offset))) p f

  -- a refusal before the look, which is not 11
  pub early : (e : Refusal) → refused_answer e ≡ answer (given (refusals t G (length image) placed fits)) 0 → (c : ℕ) → refused_answer e ≡ access_answer t G image bank offset n c
  unfolding first refusals image_refusals answer_at access_answer
  early e k c =
      let m : ℕ = given (refusals t G (length image) placed fits) in
      let number = refused_number e _ _ _ k in
      let kept : m ≡ access_number t G image bank offset n = sym (given_kept first _ (λ z. never_done e (sym (number ∙ z)))) ∙ same in
      let other = ne_eqb m 11 (never_given 11 first (λ z. absurd (omega (arith, z))) tt) in
      let l : Location = other_place (seen_at t G image bank offset) in
      let no_place : answer_at nowhere m 0 ≡ answer_at l m 0 =
      ap (λ (b : Bool). told m (cond (eqb m 0) 0 0) (cond b nowhere nowhere)) other
      ∙ sym (ap (λ (b : Bool). told m (cond (eqb m 0) 0 0) (cond b l nowhere)) other) in
      recounted e _ _ _ (k ∙ no_place) c
      ∙ ap (λ (i : ℕ). answer_at (other_place (seen_at t G image bank offset)) i c) kept

  module _ (k : 0 ≡ given (refusals t G (length image) placed fits)) where
    none : NoneHolds first
    unfolding first refusals image_refusals
    none = (given_other 0 (refusals t G (length image) placed fits) [] tt (sym k)).0

    module _ (at : ℕ) (e : at ≡ 272 * slot G bank (offset / 256)) {seen : Seen}
        (l : seen ≡ whose (deciphered t) bank (offset / 256) (take (at + 272 - at) (drop at image))) where
      at_record : seen ≡ seen_at t G image bank offset
      unfolding seen_at
      at_record = l ∙ ap (whose (deciphered t) bank (offset / 256)) (record_slice G bank (offset / 256) at image e)

      -- the look decides
      pub decided : (c : ℕ) → answer_at (other_place seen) (given (look_refusals seen)) c ≡ access_answer t G image bank offset n c
      unfolding access_answer
      decided c =
          ap₂ (λ (s : Seen) (i : ℕ). answer_at (other_place s) i c) at_record
          (ap (λ (s : Seen). given (look_refusals s)) at_record ∙ sym (given_after first (look_refusals (seen_at t G image bank offset)) none) ∙ same)

-- a look that gives no refusal found the place's own record
pub own : (s : Seen) → given (look_refusals s) ≡ 0 → s ≡ Own
unfolding given look_refusals
own Own e = refl
own (Other l) e = absurd (omega (arith, e))
own NoPlace e = absurd (omega (arith, e))

pub own_looked : (D : List ℕ → List ℕ) (bank page : ℕ) (r : List ℕ) → whose D bank page r ≡ Own → looked D bank page r ≡ true
unfolding whose
own_looked D bank page r e = by (looked D bank page r) (names_place (D (take 16 r))) e
  where
    by : (a b : Bool) → cond a Own (cond b (Other (place_named (D (take 16 r)))) NoPlace) ≡ Own → a ≡ true
    by true b e = refl
    by false true e = absurd (cc)
    by false false e = absurd (cc)

-- what holds of a call that is taken: all that, and that the record is of its place
pub accessed :
    (t : Twofish) (G : Geometry) (image : List ℕ) (bank offset n : ℕ) → 0 ≡ access_number t G image bank offset n
    → Opens t G (length image) bank offset n × (looked (deciphered t) bank (offset / 256) (record_at G bank (offset / 256) image) ≡ true)
unfolding access_number seen_at refusals image_refusals given
accessed t G image bank offset n e =
    let s : Seen = seen_at t G image bank offset in
    let first : List Line = refusals t G (length image) (offset_reached G bank offset) (within_page offset n) in
    let k = given_other 0 first (look_refusals s) tt (sym e) in
    (opens refl refl (sym (given_after first [] k.0)), own_looked (deciphered t) bank (offset / 256) _ (own s k.1))

-- what holds of a call whose record is found: it begins at `at`
pub record Found (t : Twofish) (G : Geometry) (image : List ℕ) (bank offset n at : ℕ) : Type 0 where
  pub done : 0 ≡ access_number t G image bank offset n
  pub answered : (c : ℕ) → told 0 c nowhere ≡ access_answer t G image bank offset n c
  pub place : at ≡ 272 * slot G bank (offset / 256)
  pub call : Opens t G (length image) bank offset n
  pub its_own : looked (deciphered t) bank (offset / 256) (record_at G bank (offset / 256) image) ≡ true
  pub part : take (at + 272 - at) (drop at image) ≡ record_at G bank (offset / 256) image
  pub long : length (take (at + 272 - at) (drop at image)) ≡ 272

pub found :
    {t : Twofish} {G : Geometry} {image : List ℕ} {bank offset n at : ℕ}
    → told 0 at nowhere ≡ access_answer t G image bank offset n (272 * slot G bank (offset / 256)) → Found t G image bank offset n at
unfolding access_answer answer_at
found {t} {G} {image} {bank} {offset} {n} {at} e =
    let d = done_count _ _ _ _ e in
    let k = accessed t G image bank offset n d.0 in
    record {
      done = d.0;
      answered = λ c. ap (λ (i : ℕ). answer_at (other_place (seen_at t G image bank offset)) i c) d.0;
      place = d.1;
      call = k.0;
      its_own = k.1;
      part = record_slice G bank (offset / 256) at image d.1;
      long = slice-length G bank (offset / 256) at image d.1 k.0.room;
    }
