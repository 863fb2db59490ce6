-- What a report says of its images: a bit is set exactly where its page changed, the number is that of the ones, and the next changed page is the next.
use Rattle.std.proofs.Common.{◌≡◌, ℕ, ◌+◌, ◌/◌, ◌<◌, Bool, true, false, not, ◌&&◌, eqb, List, get_or, Some, None, refl, sym, ap, ◌∙◌}
use lib.Count.{ones}
use lib.Pointwise.{pointwise, bytes_decides}
use Rattle.twofish.specs.declared.Twofish.{Twofish}
use Rattle.block.specs.Block.{deciphered}
use Rattle.sealed.specs.declared.Geometry.{Geometry}
use Rattle.sealed.specs.declared.Seen.{Seen}
use Rattle.sealed.specs.declared.Seen.TheVariants.{Own, Other, NoPlace}
use Rattle.sealed.specs.Record.{whose}
use Rattle.sealed.specs.Image.{reached, record_at, seen_at}
use Rattle.sealed.proofs.ImageLaws.{both}
use Rattle.masks.specs.Masks.{is_set, masks_of, how_many, next_of}
use Rattle.masks.proofs.MaskLaws.{masks_of-is_set, ones-masks_of}
use Rattle.masks.proofs.NextLaws.{IsNext, NoNext, next_of-same, next_is, next_none}
use Rattle.report.specs.Slots.{counts, seen, is_own, plain, is_changed, page_changed}
use Rattle.report.proofs.SlotLaws.{front-page}

-- a look for any offset in a page finds what one from its front does
pub seen-offset : (t : Twofish) (G : Geometry) (image : List ℕ) (bank offset : ℕ) → seen t G image bank (offset / 256) ≡ seen_at t G image bank offset
unfolding seen seen_at
seen-offset t G image bank offset = ap (λ (p : ℕ). whose (deciphered t) bank p (record_at G bank p image)) (front-page (offset / 256))

own_seen : (s : Seen) → is_own s ≡ true → s ≡ Own
own_seen Own e = refl
own_seen (Other l) e = absurd (cc)
own_seen NoPlace e = absurd (cc)

-- what it is that a page of a bank changed: it is there, it can be read in both images, and its plain bytes differ
pub record Changed (t : Twofish) (G : Geometry) (old new : List ℕ) (bank page : ℕ) : Type 0 where
  pub there : reached G bank page ≡ true
  pub old_own : seen t G old bank page ≡ Own
  pub new_own : seen t G new bank page ≡ Own
  pub differ : plain t G old bank page ≡ plain t G new bank page → ⊥

module _ (t : Twofish) (G : Geometry) (old new : List ℕ) (bank : ℕ) where
  -- the test is that
  pub changed_exactly :
      (page : ℕ) → (page_changed t G old new bank page ≡ true → Changed t G old new bank page) × (Changed t G old new bank page → page_changed t G old new bank page ≡ true)
  unfolding page_changed counts is_changed
  changed_exactly page =
      let a : List ℕ = plain t G old bank page in
      let b : List ℕ = plain t G new bank page in (
        λ e.
            let p = both _ _ e in
            let q = both _ _ p.1 in
            let r = both _ _ q.0 in
            record {
              there = p.0;
              old_own = own_seen _ r.0;
              new_own = own_seen _ r.1;
              differ = λ z. other (pointwise eqb a b) q.1 ((bytes_decides a b).1 z);
            },
        λ c.
            all (reached G bank page) (seen t G old bank page) (seen t G new bank page) (pointwise eqb a b) c.there c.old_own c.new_own
            (λ z. c.differ ((bytes_decides a b).0 z)),
      )
    where
      other : (d : Bool) → not d ≡ true → d ≡ true → ⊥
      other true e h = cc
      other false e h = cc

      all : (x : Bool) (s s' : Seen) (d : Bool) → x ≡ true → s ≡ Own → s' ≡ Own → (d ≡ true → ⊥) → (x && (is_own s && is_own s' && not d)) ≡ true
      all x s s' true h o n k = absurd (k refl)
      all x s s' false h o n k = rw (h, o, n) refl

  -- a page's bit is set exactly where it changed
  pub bit_exactly : (page : ℕ) → page < 256 → is_set (masks_of (page_changed t G old new bank)) page ≡ page_changed t G old new bank page
  bit_exactly page h = masks_of-is_set (page_changed t G old new bank) page h

  -- the number of changed pages is the number of ones of the four masks
  pub changed_ones :
      let masks : List ℕ = masks_of (page_changed t G old new bank) in
      how_many (page_changed t G old new bank) 256 ≡ ones (get_or masks 0 0) + ones (get_or masks 1 0) + ones (get_or masks 2 0) + ones (get_or masks 3 0)
  changed_ones = sym (ones-masks_of (page_changed t G old new bank))

  next_changed : (from : ℕ) → next_of (is_set (masks_of (page_changed t G old new bank))) from ≡ next_of (page_changed t G old new bank) from
  next_changed from = next_of-same (is_set (masks_of (page_changed t G old new bank))) (page_changed t G old new bank) bit_exactly from

  -- the next page of the masks is the least from a given one on that changed
  pub next_exactly :
      (from page : ℕ)
      → (next_of (is_set (masks_of (page_changed t G old new bank))) from ≡ Some page → IsNext (page_changed t G old new bank) from page)
      × (IsNext (page_changed t G old new bank) from page → next_of (is_set (masks_of (page_changed t G old new bank))) from ≡ Some page)
  next_exactly from page =
      let k = next_is (page_changed t G old new bank) from page in (λ e. k.0 (sym (next_changed from) ∙ e), λ n. next_changed from ∙ k.1 n)

  -- and there is none exactly where none changed
  pub none_exactly :
      (from : ℕ)
      → (next_of (is_set (masks_of (page_changed t G old new bank))) from ≡ None → NoNext (page_changed t G old new bank) from)
      × (NoNext (page_changed t G old new bank) from → next_of (is_set (masks_of (page_changed t G old new bank))) from ≡ None)
  none_exactly from =
      let k = next_none (page_changed t G old new bank) from in (λ e. k.0 (sym (next_changed from) ∙ e), λ n. next_changed from ∙ k.1 n)
