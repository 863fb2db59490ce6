-- Any image is the sealing afresh of its slots.
use Rattle.std.proofs.Common.{◌≡◌, ℕ, zero, suc, ◌*◌, ◌/◌, ◌%◌, Bool, true, false, cond, List, ◌++◌, length, take, drop, refl, sym, ap, ap₂, ◌∙◌, arith, length-drop, take-append-drop}
use Rattle.std.proofs.lemmas.List.{nil_from_length}
use Rattle.spans.specs.Bytes.{Bytes}
use Rattle.spans.proofs.BytesLaws.{AllBytes, AllBytes-drop, Bytes-take}
use Rattle.twofish.specs.declared.Twofish.{Twofish}
use Rattle.block.specs.Block.{deciphered, Schedule}
use Rattle.sealed.specs.declared.Geometry.{Geometry}
use Rattle.sealed.specs.Record.{looked, page_of}
use Rattle.sealed.specs.Image.{image_length}
use Rattle.sealed.proofs.PageLaws.{page_of-bytes, sealed-page_of}
use Rattle.history.specs.Order.{in_order, Each}
use Rattle.history.specs.Slots.{Page, Raw, slot_record, image_of, Right, Slots, seen, view, slots_of}

module _ (t : Twofish) (G : Geometry) (s : Schedule t) where
  -- a record is that of the slot that it is seen as
  seen-record : (n : ℕ) (r : List ℕ) → Bytes 272 r → (slot_record t G n (seen t G n r) ≡ r) × Right t G n (seen t G n r)
  unfolding slot_record Right seen
  seen-record n r b = by (looked (deciphered t) (n / G.pages) (n % G.pages) r) refl
    where
      by :
          (so : Bool) → looked (deciphered t) (n / G.pages) (n % G.pages) r ≡ so
          → (slot_record t G n (cond so (Page (page_of (deciphered t) r)) (Raw r)) ≡ r) × Right t G n (cond so (Page (page_of (deciphered t) r)) (Raw r))
      by true e = (sealed-page_of t (n / G.pages) (n % G.pages) s r b.long b.byte e, page_of-bytes t r b.long b.byte)
      by false e = (refl, (b.long, e))

  -- what holds of n slots of an image from slot m on
  record Viewed (n m : ℕ) (image : List ℕ) : Type 0 where
    same : in_order (slot_record t G) m (view t G m n image) ≡ image
    each : Each (Right t G) m (view t G m n image)
    count : length (view t G m n image) ≡ n

  viewed : (n m : ℕ) (image : List ℕ) → length image ≡ 272 * n → AllBytes image → Viewed n m image
  unfolding in_order view
  viewed zero m image long bytes = record { same = sym (nil_from_length image (omega (arith, long))); each = tt; count = refl }
  viewed (suc n) m image long bytes =
      let r = seen-record m (take 272 image) (Bytes-take 272 image (omega (arith, long)) bytes) in
      let rest = viewed n (suc m) (drop 272 image) (omega (arith, long, length-drop 272 image)) (AllBytes-drop 272 image bytes) in
      record {
        same = ap₂ ◌++◌ r.0 rest.same ∙ take-append-drop 272 image;
        each = (r.1, rest.each);
        count = ap suc rest.count;
      }

  pub image_of-slots_of : (image : List ℕ) → length image ≡ image_length G → AllBytes image → (image_of t G (slots_of t G image) ≡ image) × Slots t G (slots_of t G image)
  unfolding image_of slots_of image_length
  image_of-slots_of image long bytes = let v = viewed (G.pages * G.banks) 0 image long bytes in (v.same, record { count = v.count; each = v.each })
