-- Laws of the sealing afresh of slots: its length, its records, a page sealed into it, and what a look and an opening say of a record of it.
use Rattle.std.proofs.Common.{◌≡◌, ℕ, ◌*◌, ◌/◌, ◌%◌, ◌<◌, true≢false, true, Bool, cond, List, [], ◌++◌, length, take, set, replicate, refl, sym, ap, ap₂, subst, ◌∙◌, arith, length-set}
use Rattle.spans.specs.Bytes.{Bytes}
use Rattle.spans.specs.Parts.{splice}
use Rattle.twofish.specs.declared.Twofish.{Twofish}
use Rattle.block.specs.Block.{enciphered, deciphered, Schedule}
use Rattle.block.proofs.ThereAndBack.{enciphered-length}
use Rattle.sealed.specs.declared.Geometry.{Geometry}
use Rattle.sealed.specs.Cbc.{cbc}
use Rattle.sealed.specs.declared.Seen.TheVariants.{Own, Other, NoPlace}
use Rattle.sealed.specs.Record.{place_block, filled, sealed, looked, names_place, place_named, whose, page_of}
use Rattle.sealed.specs.Image.{slot, image_length, record_at, sealed_in}
use Rattle.sealed.proofs.ImageLaws.{There, slot-within, slot-bank, slot-page, bank_byte, page_byte}
use Rattle.sealed.proofs.AccessLaws.{own_looked}
use Rattle.sealed.proofs.RecordLaws.{sealed-length}
use Rattle.sealed.proofs.OpenLaws.{filled-page}
use Rattle.sealed.proofs.PageLaws.{page_of-sealed, looked-sealed}
use Rattle.history.specs.Order.{Each}
use Rattle.history.specs.Slots.{Slot, Page, Raw, held, slot_of, slot_whose, slot_record, image_of, Right, Slots}
use Rattle.history.proofs.OrderLaws.{Each-at, Each-set, Each-map, in_order-length, record-in_order, splice-in_order}

module _ (t : Twofish) (G : Geometry) (s : Schedule t) where
  record-length : (n : ℕ) (x : Slot) → Right t G n x → length (slot_record t G n x) ≡ 272
  unfolding slot_record Right
  record-length n (Page page) r = sealed-length (enciphered t) _ _ page (enciphered-length t) (omega (arith, r.long))
  record-length n (Raw bytes) r = r.0

  module _ (slots : List Slot) (h : Slots t G slots) where
    records : Each (λ n x. length (slot_record t G n x) ≡ 272) 0 slots
    records = Each-map (Right t G) _ record-length 0 slots h.each

    pub image_of-length : length (image_of t G slots) ≡ image_length G
    unfolding image_of image_length
    image_of-length = in_order-length (slot_record t G) 0 slots records ∙ ap (λ (n : ℕ). 272 * n) h.count

    module _ (bank page : ℕ) (there : There G bank page) where
      abbrev at : ℕ
      at = slot G bank page

      within : at < length slots
      within = subst (λ (n : ℕ). at < n) (sym h.count) (slot-within there)

      at_place : {X : Type 0} (f : ℕ → ℕ → X) → f (at / G.pages) (at % G.pages) ≡ f bank page
      at_place f = ap₂ f (slot-bank there) (slot-page there)

      right-there : Right t G at (slot_of G bank page slots)
      unfolding slot_of
      right-there = Each-at (Right t G) 0 at at slots (Raw []) (omega arith) h.each within

      -- the record of a slot
      record-there : record_at G bank page (image_of t G slots) ≡ slot_record t G at (slot_of G bank page slots)
      unfolding record_at image_of slot_of
      record-there = record-in_order (slot_record t G) 0 at at slots (Raw []) (omega arith) records within

      -- a page set into a slot
      pub set-there : (page' : List ℕ) → Bytes 256 page' → Slots t G (set slots at (Page page'))
      unfolding Right
      set-there page' b =
          record { count = length-set slots at (Page page') ∙ h.count; each = Each-set (Right t G) 0 at at slots (Page page') (omega arith) h.each b }

      -- plain bytes sealed into a slot are the page that they make
      pub sealed_in-there :
          (plain page' : List ℕ) → filled plain ≡ page' → Bytes 256 page'
          → sealed_in (enciphered t) G bank page plain (image_of t G slots) ≡ image_of t G (set slots at (Page page'))
      unfolding sealed_in image_of sealed slot_record Right
      sealed_in-there plain page' e b =
          let same : sealed (enciphered t) bank page plain ≡ slot_record t G at (Page page') =
          ap (λ (l : List ℕ). cbc (enciphered t) (replicate 16 0) 17 (place_block bank page ++ l)) (e ∙ sym (filled-page page' b.long))
          ∙ sym (at_place (λ (m n : ℕ). sealed (enciphered t) m n page')) in
          ap (λ (r : List ℕ). splice (272 * at) r (image_of t G slots)) same
          ∙ splice-in_order (slot_record t G) 0 at at slots (Page page') (omega arith) records (record-length at (Page page') b) within

      -- a page sealed in its place
      module _ (plain : List ℕ) (b : Bytes 256 plain) where
        looked-page : looked (deciphered t) bank page (slot_record t G at (Page plain)) ≡ true
        unfolding slot_record
        looked-page =
            ap (looked (deciphered t) bank page) (at_place (λ (m n : ℕ). sealed (enciphered t) m n plain))
            ∙ looked-sealed t bank page s plain (bank_byte there) (page_byte there) (omega (arith, b.long)) b.byte

        opened-page : page_of (deciphered t) (slot_record t G at (Page plain)) ≡ plain
        unfolding slot_record
        opened-page =
            ap (page_of (deciphered t)) (at_place (λ (m n : ℕ). sealed (enciphered t) m n plain))
            ∙ page_of-sealed t bank page s plain (bank_byte there) (page_byte there) (omega (arith, b.long)) b.byte ∙ filled-page plain b.long

      -- a look at a record finds its place's own exactly where its slot holds a page, and the record holds that page
      whose-slot : (x : Slot) → Right t G at x → whose (deciphered t) bank page (slot_record t G at x) ≡ slot_whose t bank page x
      unfolding Right slot_record whose slot_whose
      whose-slot (Page plain) b =
          let r : List ℕ = slot_record t G at (Page plain) in
          ap (λ (own : Bool). cond own Own (cond (names_place (deciphered t (take 16 r))) (Other (place_named (deciphered t (take 16 r)))) NoPlace)) (looked-page plain b)
      whose-slot (Raw bytes) r = refl

      opened-slot : (x : Slot) → Right t G at x → slot_whose t bank page x ≡ Own → (page_of (deciphered t) (slot_record t G at x) ≡ held x) × Bytes 256 (held x)
      unfolding Right slot_whose
      opened-slot (Page plain) b e = (opened-page plain b, b)
      opened-slot (Raw bytes) r e =
          absurd
          (true≢false (sym (own_looked (deciphered t) bank page bytes e) ∙ sym (at_place (λ (m n : ℕ). looked (deciphered t) m n bytes)) ∙ r.1))

      pub whose-there : whose (deciphered t) bank page (record_at G bank page (image_of t G slots)) ≡ slot_whose t bank page (slot_of G bank page slots)
      whose-there = ap (whose (deciphered t) bank page) record-there ∙ whose-slot (slot_of G bank page slots) right-there

      pub opened-there :
          slot_whose t bank page (slot_of G bank page slots) ≡ Own
          → (page_of (deciphered t) (record_at G bank page (image_of t G slots)) ≡ held (slot_of G bank page slots)) × Bytes 256 (held (slot_of G bank page slots))
      opened-there e =
          let o = opened-slot (slot_of G bank page slots) right-there e in (ap (page_of (deciphered t)) record-there ∙ o.0, o.1)
