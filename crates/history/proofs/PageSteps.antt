-- One call on slots that are all pages goes as on the list of the pages.
use Rattle.std.proofs.Common.{◌≡◌, ◌≢◌, ℕ, suc, ◌/◌, ◌%◌, ◌<◌, List, [], ◌∷◌, ◌++◌, length, take, drop, set, get_or, map, refl, sym, ap, subst, ◌∙◌, arith, length-set}
use Rattle.std.proofs.lemmas.List.{map-set, get_or-map, length-map}
use Rattle.spans.specs.Bytes.{Bytes}
use Rattle.spans.specs.Parts.{splice}
use Rattle.spans.specs.Refusals.{given}
use Rattle.spans.proofs.RefusalLaws.{never_given, given_last}
use Rattle.twofish.specs.declared.Twofish.{Twofish}
use Rattle.block.specs.Block.{enciphered}
use Rattle.sealed.specs.declared.Geometry.{Geometry}
use Rattle.sealed.specs.Record.{filled, sealed}
use Rattle.sealed.specs.Image.{slot, image_refusals, refusals, look_refusals, seal_number}
use Rattle.sealed.proofs.ImageLaws.{There, slot-within, takes}
use Rattle.sealed.proofs.PageLaws.{filled-bytes, patched-bytes}
use Rattle.history.specs.Calls.{Call, Seal, Patch, Read, WritesBytes, before_look}
use Rattle.history.specs.Order.{in_order, Each}
use Rattle.history.specs.Slots.{Slot, Page, Raw, held, slot_of, slot_whose, slot_seen, slot_access, slots_number, slots_place, slots_bytes, slots_next, on_slots, slot_record, image_of, Right, Slots}
use Rattle.history.specs.Pages.{pages_number, page_at, plain_bytes, applied, on_pages, sealing, Pages}
use Rattle.history.proofs.OrderLaws.{Each-at, Each-set}
use Rattle.history.proofs.RunLaws.{Follows}
use Rattle.history.proofs.PlaceLaws.{reaches}

-- 8 and 11 are none of the refusals before a look, so they are none of those on pages
pub never : (t : Twofish) (G : Geometry) (c : Call) → (pages_number t G c ≢ 8) × (pages_number t G c ≢ 11)
unfolding pages_number seal_number before_look refusals image_refusals
never t G (Seal bank page plain) = (never_given 8 _ (λ z. omega (arith, z)) tt, never_given 11 _ (λ z. omega (arith, z)) tt)
never t G (Patch bank offset bytes) = (never_given 8 _ (λ z. omega (arith, z)) tt, never_given 11 _ (λ z. omega (arith, z)) tt)
never t G (Read bank offset out) = (never_given 8 _ (λ z. omega (arith, z)) tt, never_given 11 _ (λ z. omega (arith, z)) tt)

-- the slots of pages
abbrev pub as_slots : List (List ℕ) → List Slot
as_slots pages = map (λ page. Page page) pages

module _ (t : Twofish) (G : Geometry) where
  -- the sealing afresh of pages is that of their slots
  pub image_of-pages : (pages : List (List ℕ)) → image_of t G (as_slots pages) ≡ sealing t G pages
  unfolding image_of sealing in_order slot_record
  image_of-pages pages = from 0 pages
    where
      from :
          (s : ℕ) (pages : List (List ℕ))
          → in_order (slot_record t G) s (as_slots pages) ≡ in_order (λ n page. sealed (enciphered t) (n / G.pages) (n % G.pages) page) s pages
      from s [] = refl
      from s (page ∷ pages) = ap (λ (l : List ℕ). sealed (enciphered t) (s / G.pages) (s % G.pages) page ++ l) (from (suc s) pages)

  pub slots-pages : (pages : List (List ℕ)) → Pages G pages → Slots t G (as_slots pages)
  unfolding Right
  slots-pages pages h = record { count = length-map pages (λ page. Page page) ∙ h.count; each = from 0 pages h.each }
    where
      from : (s : ℕ) (pages : List (List ℕ)) → Each (λ n page. Bytes 256 page) s pages → Each (Right t G) s (as_slots pages)
      from s [] h = tt
      from s (page ∷ pages) h = (h.0, from (suc s) pages h.1)

  -- and the reverse
  pub pages-slots : (pages : List (List ℕ)) → Slots t G (as_slots pages) → Pages G pages
  unfolding Right
  pages-slots pages h = record { count = sym (length-map pages (λ page. Page page)) ∙ h.count; each = from 0 pages h.each }
    where
      from : (s : ℕ) (pages : List (List ℕ)) → Each (Right t G) s (as_slots pages) → Each (λ n page. Bytes 256 page) s pages
      from s [] h = tt
      from s (page ∷ pages) h = (h.0, from (suc s) pages h.1)

  module _ (pages : List (List ℕ)) (h : Pages G pages) where
    module _ (bank page : ℕ) (there : There G bank page) where
      abbrev at : ℕ
      at = slot G bank page

      within : at < length pages
      within = subst (λ (n : ℕ). at < n) (sym h.count) (slot-within there)

      pub slot_of-pages : slot_of G bank page (as_slots pages) ≡ Page (get_or pages at [])
      unfolding slot_of
      slot_of-pages = get_or-map (λ page. Page page) pages at [] (Raw []) within

      page-there : Bytes 256 (get_or pages at [])
      page-there = Each-at (λ n page. Bytes 256 page) 0 at at pages [] (omega arith) h.each within

      set-page : (page' : List ℕ) → Bytes 256 page' → Pages G (set pages at page')
      set-page page' b =
          record { count = length-set pages at page' ∙ h.count; each = Each-set (λ n page. Bytes 256 page) 0 at at pages page' (omega arith) h.each b }

    -- a patch or a read
    module _ (bank offset n : ℕ) where
      same_access : slot_access t G (as_slots pages) bank offset n ≡ given (before_look t G bank offset n)
      unfolding slot_access slot_seen slot_whose look_refusals before_look refusals image_refusals given
      same_access =
          given_last (before_look t G bank offset n) (look_refusals (slot_seen t G (as_slots pages) bank offset)) []
          (λ e. ap (λ (x : Slot). given (look_refusals (slot_whose t bank (offset / 256) x))) (slot_of-pages bank (offset / 256) (reaches t G bank offset n e).there))

      same_page : given (before_look t G bank offset n) ≡ 0 → held (slot_of G bank (offset / 256) (as_slots pages)) ≡ page_at G bank offset pages
      unfolding page_at
      same_page e = ap held (slot_of-pages bank (offset / 256) (reaches t G bank offset n e).there)

    pub pages_follow : (c : Call) → WritesBytes c → Follows (on_slots t G) (on_pages t G) as_slots (Pages G) c pages
    unfolding WritesBytes slots_number slots_place slots_bytes slots_next pages_number page_at plain_bytes applied before_look
    pages_follow (Seal bank page plain) b =
        record {
          number = refl;
          place = λ e. refl;
          bytes = λ e. refl;
          next = λ e. sym (map-set (λ page. Page page) pages (slot G bank page) (filled plain));
          keeps = λ e. let k = takes e in set-page bank page k.there (filled plain) (filled-bytes plain k.fits b);
        }
    pages_follow (Patch bank offset bytes) b =
        record {
          number = same_access bank offset (length bytes);
          place = λ e. absurd ((never t G (Patch bank offset bytes)).1 e);
          bytes = λ e. refl;
          next =
              λ e.
              ap (λ (l : List ℕ). set (as_slots pages) (slot G bank (offset / 256)) (Page (splice (offset % 256) bytes l))) (same_page bank offset (length bytes) e)
              ∙ sym (map-set (λ page. Page page) pages (slot G bank (offset / 256)) (splice (offset % 256) bytes (page_at G bank offset pages)));
          keeps =
              λ e.
              let k = reaches t G bank offset (length bytes) e in
              set-page bank (offset / 256) k.there _ (patched-bytes (offset % 256) bytes _ k.inside b (page-there bank (offset / 256) k.there));
        }
    pages_follow (Read bank offset out) b =
        record {
          number = same_access bank offset (length out);
          place = λ e. absurd ((never t G (Read bank offset out)).1 e);
          bytes = λ e. ap (λ (l : List ℕ). take (length out) (drop (offset % 256) l)) (same_page bank offset (length out) e);
          next = λ e. refl;
          keeps = λ e. h;
        }
