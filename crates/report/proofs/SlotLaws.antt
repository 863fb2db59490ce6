-- Laws of a slot of two images that are taken: what a look at it says, and that its records differ exactly where its pages do.
use Rattle.std.proofs.Common.{◌≡◌, ℕ, ◌+◌, ◌*◌, ◌-◌, ◌/◌, ◌%◌, ◌<◌, ◌≤◌, Bool, true, false, not, ◌&&◌, ◌||◌, eqb, leb, List, length, take, drop, refl, sym, ap, ap₂, ◌∙◌, arith}
use borrow.Author.Tests.{lt-ltb, le-ltb, eq-eqb, ltb-true}
use lib.Pointwise.{pointwise, bytes_decides}
use Rattle.spans.proofs.BytesLaws.{AllBytes, AllBytes-take, AllBytes-drop}
use Rattle.spans.specs.Refusals.{given}
use Rattle.spans.proofs.RefusalLaws.{given_after}
use Rattle.twofish.specs.declared.Refusal.{Refusal}
use Rattle.twofish.specs.declared.Twofish.{Twofish}
use Rattle.twofish.specs.Answers.{refused_answer, counted}
use Rattle.std.specs.Prelude.{Result, Ok, Err, is_err}
use Rattle.twofish.proofs.AnswerLaws.{never_done}
use Rattle.block.specs.Block.{enciphered, deciphered, Schedule}
use Rattle.sealed.specs.declared.Geometry.{Geometry}
use Rattle.sealed.specs.declared.Seen.{Seen}
use Rattle.sealed.specs.declared.Seen.TheVariants.{Own, Other, NoPlace}
use Rattle.sealed.specs.Record.{whose, looked, sealed, page_of}
use Rattle.sealed.specs.Image.{in_range, image_length, reached, offset_reached, up_to_256, within_page, slot, record_at, refusals, image_refusals, seen_at, look_refusals, access_number, access_answer}
use Rattle.sealed.proofs.ImageLaws.{both, record_slice, slice-length}
use Rattle.sealed.proofs.AccessLaws.{accessed, own}
use Rattle.sealed.proofs.OutcomeLaws.{refused_number, done_count}
use Rattle.sealed.proofs.PageLaws.{sealed-page_of}
use Rattle.report.specs.declared.Compared.{Compared}
use Rattle.report.specs.declared.Compared.TheVariants.{Same, Changed, Unreadable}
use Rattle.report.specs.Slots.{seen, is_own, is_refused, plain, is_same, is_changed, is_unreadable, finds_same, finds_changed, finds_unreadable, Finds}

-- a page begins at its front
pub front-page : (page : ℕ) → 256 * page / 256 ≡ page
front-page page = omega arith

front_within : (page : ℕ) → within_page (256 * page) 1 ≡ true
unfolding within_page up_to_256
front_within page = let front : 256 * page % 256 ≡ 0 = omega arith in ap (λ (k : ℕ). leb (k + 1) 256) front

front_reached : (G : Geometry) (bank page : ℕ) → reached G bank page ≡ true → offset_reached G bank (256 * page) ≡ true
unfolding reached offset_reached
front_reached G bank page h =
    let b = both _ _ h in
    let paged : page < G.pages = ltb-true _ _ b.1 in
    ap₂ ◌&&◌ b.0 (lt-ltb (256 * page) (256 * G.pages) (omega (arith, paged)))

refused_where : (s : Seen) → (given (look_refusals s) ≡ 0 → ⊥) → is_refused s ≡ true
unfolding given look_refusals
refused_where Own n = absurd (n refl)
refused_where (Other l) n = refl
refused_where NoPlace n = refl

-- a read from the front of a slot of an image that is taken is refused by its look alone
module _ (t : Twofish) (G : Geometry) (image : List ℕ) (bank page : ℕ) (start : t.start ≤ 2) (ranged : in_range G ≡ true)
    (whole : length image ≡ image_length G) (there : reached G bank page ≡ true) where
  look_number : access_number t G image bank (256 * page) 1 ≡ given (look_refusals (seen t G image bank page))
  unfolding access_number refusals image_refusals seen
  look_number =
      given_after (refusals t G (length image) (offset_reached G bank (256 * page)) (within_page (256 * page) 1)) (look_refusals (seen t G image bank page)) (
        le-ltb 2 t.start start,
        (ap not ranged, (ap not (eq-eqb (length image) (image_length G) whole), (ap not (front_reached G bank page there), (ap not (front_within page), tt)))),
      )

  -- so where it is refused the slot cannot be read
  pub refused_look : (e : Refusal) (c : ℕ) → refused_answer e ≡ access_answer t G image bank (256 * page) 1 c → is_refused (seen t G image bank page) ≡ true
  unfolding access_answer
  refused_look e c k =
      refused_where (seen t G image bank page) (λ z. never_done e (sym (refused_number e _ _ _ k ∙ look_number ∙ z)))

  pub refused_result :
      (r : Result ℕ Refusal) (c : ℕ) → is_err r ≡ true → counted r ≡ access_answer t G image bank (256 * page) 1 c → is_refused (seen t G image bank page) ≡ true
  refused_result (Ok n) c e k = absurd (cc)
  refused_result (Err f) c e k = refused_look f c k

  -- and where it is not the slot can
  pub own_look : 0 ≡ access_number t G image bank (256 * page) 1 → is_own (seen t G image bank page) ≡ true
  own_look e = ap is_own (own (seen t G image bank page) (sym look_number ∙ sym e))

-- two records of one place are equal exactly where their pages are
module _ (t : Twofish) (s : Schedule t) (bank page : ℕ) (r r' : List ℕ) (long : length r ≡ 272) (long' : length r' ≡ 272) (byte : AllBytes r) (byte' : AllBytes r')
    (its_own : looked (deciphered t) bank page r ≡ true) (its_own' : looked (deciphered t) bank page r' ≡ true) where
  from_pages : page_of (deciphered t) r ≡ page_of (deciphered t) r' → r ≡ r'
  from_pages e =
      sym (sealed-page_of t bank page s r long byte its_own)
      ∙ ap (sealed (enciphered t) bank page) e ∙ sealed-page_of t bank page s r' long' byte' its_own'

  pub pages-records : pointwise eqb (page_of (deciphered t) r) (page_of (deciphered t) r') ≡ pointwise eqb r r'
  pages-records = by (pointwise eqb r r') (pointwise eqb (page_of (deciphered t) r) (page_of (deciphered t) r')) refl refl
    where
      by : (a b : Bool) → pointwise eqb r r' ≡ a → pointwise eqb (page_of (deciphered t) r) (page_of (deciphered t) r') ≡ b → b ≡ a
      by true b h k = sym k ∙ (bytes_decides _ _).1 (ap (page_of (deciphered t)) ((bytes_decides r r').0 h))
      by false true h k = sym ((bytes_decides r r').1 (from_pages ((bytes_decides _ _).0 k))) ∙ h
      by false false h k = refl

-- a read that is not refused
pub read_result :
    (t : Twofish) (G : Geometry) (image : List ℕ) (bank offset n c : ℕ) (r : Result ℕ Refusal) → is_err r ≡ false → counted r ≡ access_answer t G image bank offset n c
    → 0 ≡ access_number t G image bank offset n
unfolding access_answer
read_result t G image bank offset n c (Ok k) e h = (done_count _ _ _ _ h).0
read_result t G image bank offset n c (Err f) e h = absurd (cc)

-- the pages of a slot that can be read in two images are equal exactly where its records are, which begin at `at`
module _ (t : Twofish) (s : Schedule t) (G : Geometry) (old new : List ℕ) (bank page at : ℕ) (byte : AllBytes old) (byte' : AllBytes new)
    (o : 0 ≡ access_number t G old bank (256 * page) 1) (n : 0 ≡ access_number t G new bank (256 * page) 1) (e : at ≡ 272 * slot G bank (256 * page / 256)) where
  record_bytes : (image : List ℕ) → AllBytes image → AllBytes (record_at G bank (256 * page / 256) image)
  unfolding record_at
  record_bytes image b = AllBytes-take 272 _ (AllBytes-drop _ image b)

  record-length : (image : List ℕ) → 0 ≡ access_number t G image bank (256 * page) 1 → length (record_at G bank (256 * page / 256) image) ≡ 272
  record-length image k =
      sym (ap length (record_slice G bank (256 * page / 256) at image e))
      ∙ slice-length G bank (256 * page / 256) at image e (accessed t G image bank (256 * page) 1 k).0.room

  pub plain-records :
      pointwise eqb (plain t G old bank page) (plain t G new bank page) ≡ pointwise eqb (take (at + 272 - at) (drop at old)) (take (at + 272 - at) (drop at new))
  unfolding plain
  plain-records =
      ap (λ (p : ℕ). pointwise eqb (page_of (deciphered t) (record_at G bank p old)) (page_of (deciphered t) (record_at G bank p new))) (sym (front-page page))
      ∙ pages-records t s bank (256 * page / 256) _ _ (record-length old o) (record-length new n) (record_bytes old byte) (record_bytes new byte')
      (accessed t G old bank (256 * page) 1 o).1 (accessed t G new bank (256 * page) 1 n).1
      ∙ ap₂ (pointwise eqb) (sym (record_slice G bank (256 * page / 256) at old e)) (sym (record_slice G bank (256 * page / 256) at new e))

-- what is found of a slot
module _ (t : Twofish) (G : Geometry) (old new : List ℕ) (bank page : ℕ) where
  no_old : (s s' : Seen) (b : Bool) → is_refused s ≡ true → (false ≡ (is_own s && is_own s' && b)) × (false ≡ (is_own s && is_own s' && not b)) × (true ≡ (is_refused s || is_refused s'))
  no_old Own s' b h = absurd (cc)
  no_old (Other l) s' b h = (refl, refl, refl)
  no_old NoPlace s' b h = (refl, refl, refl)

  no_new : (s s' : Seen) (b : Bool) → is_refused s' ≡ true → (false ≡ (is_own s && is_own s' && b)) × (false ≡ (is_own s && is_own s' && not b)) × (true ≡ (is_refused s || is_refused s'))
  no_new s Own b h = absurd (cc)
  no_new Own (Other l) b h = (refl, refl, refl)
  no_new Own NoPlace b h = (refl, refl, refl)
  no_new (Other k) s' b h = (refl, refl, refl)
  no_new NoPlace s' b h = (refl, refl, refl)

  found_of :
      {c : Compared}
      → let alike : Bool = pointwise eqb (plain t G old bank page) (plain t G new bank page) in
      let o : Seen = seen t G old bank page in
      let n : Seen = seen t G new bank page in
      (finds_same c ≡ (is_own o && is_own n && alike)) × (finds_changed c ≡ (is_own o && is_own n && not alike)) × (finds_unreadable c ≡ (is_refused o || is_refused n))
      → Finds t G old new bank page c
  unfolding is_same is_changed is_unreadable
  found_of p = record { same = p.0; changed = p.1; unreadable = p.2 }

  -- unreadable where a look at either image is refused
  pub unreadable_old : is_refused (seen t G old bank page) ≡ true → Finds t G old new bank page Unreadable
  unreadable_old h = found_of (no_old (seen t G old bank page) (seen t G new bank page) _ h)

  pub unreadable_new : is_refused (seen t G new bank page) ≡ true → Finds t G old new bank page Unreadable
  unreadable_new h = found_of (no_new (seen t G old bank page) (seen t G new bank page) _ h)

  both_own :
      (s s' : Seen) (b c : Bool) → is_own s ≡ true → is_own s' ≡ true → b ≡ c
      → (c ≡ (is_own s && is_own s' && b)) × (not c ≡ (is_own s && is_own s' && not b)) × (false ≡ (is_refused s || is_refused s'))
  both_own Own Own b c h k e = (sym e, sym (ap not e), refl)
  both_own Own (Other l) b c h k e = absurd (cc)
  both_own Own NoPlace b c h k e = absurd (cc)
  both_own (Other l) s' b c h k e = absurd (cc)
  both_own NoPlace s' b c h k e = absurd (cc)

  -- where both can be read, by whether their pages are equal
  module _ (o : is_own (seen t G old bank page) ≡ true) (n : is_own (seen t G new bank page) ≡ true) where
    pub same_pages : pointwise eqb (plain t G old bank page) (plain t G new bank page) ≡ true → Finds t G old new bank page Same
    same_pages e = found_of (both_own (seen t G old bank page) (seen t G new bank page) _ true o n e)

    pub other_pages : pointwise eqb (plain t G old bank page) (plain t G new bank page) ≡ false → Finds t G old new bank page Changed
    other_pages e = found_of (both_own (seen t G old bank page) (seen t G new bank page) _ false o n e)

-- the same record in both images, of which the old can be read: so can the new, and it holds the same page
module _ (t : Twofish) (G : Geometry) (old new : List ℕ) (bank page : ℕ) (e : record_at G bank (256 * page / 256) old ≡ record_at G bank (256 * page / 256) new) where
  seen-same : seen t G old bank page ≡ seen t G new bank page
  unfolding seen seen_at
  seen-same = ap (whose (deciphered t) bank (256 * page / 256)) e

  plain-same : plain t G old bank page ≡ plain t G new bank page
  unfolding plain
  plain-same =
      ap (page_of (deciphered t))
      (ap (λ (p : ℕ). record_at G bank p old) (sym (front-page page)) ∙ e ∙ ap (λ (p : ℕ). record_at G bank p new) (front-page page))

  same_records : is_own (seen t G old bank page) ≡ true → Finds t G old new bank page Same
  same_records o = same_pages t G old new bank page o (sym (ap is_own seen-same) ∙ o) ((bytes_decides _ _).1 plain-same)

-- two parts that are equal are the same record, where they begin at its first byte
pub same_record :
    (t : Twofish) (G : Geometry) (old new : List ℕ) (bank page at : ℕ) → at ≡ 272 * slot G bank (256 * page / 256) → is_own (seen t G old bank page) ≡ true
    → pointwise eqb (take (at + 272 - at) (drop at old)) (take (at + 272 - at) (drop at new)) ≡ true → Finds t G old new bank page Same
same_record t G old new bank page at e o h =
    same_records t G old new bank page
    (sym (record_slice G bank (256 * page / 256) at old e) ∙ (bytes_decides _ _).0 h ∙ record_slice G bank (256 * page / 256) at new e) o
