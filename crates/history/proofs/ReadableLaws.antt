-- An image whose every record is of its place is the sealing afresh of its pages; and the sealing afresh of any pages is such an image, and of those
-- alone.
use Rattle.std.proofs.Common.{◌≡◌, ℕ, Bool, cond, zero, suc, ◌+◌, ◌*◌, ◌/◌, ◌%◌, ◌<◌, ◌≤◌, true, List, [], ◌∷◌, length, take, drop, refl, sym, ap, ap₂, subst, ◌∙◌, arith, lit<}
use Rattle.std.proofs.lemmas.List.{drop-drop}
use lib.Seq.{take_at, drop_at}
use Rattle.std.proofs.Math.Nat.{mod-lt, div-add-mod, div-lt_iff_lt-mul, mul_comm}
use Rattle.spans.specs.Bytes.{Bytes}
use Rattle.spans.proofs.BytesLaws.{AllBytes, AllBytes-append}
use Rattle.twofish.specs.declared.Twofish.{Twofish}
use Rattle.block.specs.Block.{enciphered, deciphered, Schedule}
use Rattle.sealed.specs.declared.Geometry.{Geometry}
use Rattle.sealed.specs.Record.{sealed, looked, page_of}
use Rattle.sealed.specs.Image.{in_range, slot, record_at}
use Rattle.block.proofs.ThereAndBack.{enciphered-length}
use Rattle.sealed.proofs.ImageLaws.{There, bank_byte, page_byte}
use Rattle.sealed.proofs.AccessLaws.{own_looked}
use Rattle.sealed.proofs.RecordLaws.{sealed-length}
use Rattle.sealed.proofs.OpenLaws.{filled-page}
use Rattle.sealed.proofs.PageLaws.{page_of-sealed, sealed-bytes}
use Rattle.history.specs.Order.{in_order, Each}
use Rattle.history.specs.Slots.{Slot, Page, Raw, slot_whose, image_of, Slots, seen, view, slots_of}
use Rattle.history.specs.Pages.{sealing, Pages, Readable, first_pages, pages_of}
use Rattle.history.proofs.OrderLaws.{Each-map}
use Rattle.history.proofs.SlotLaws.{image_of-length, whose-there}
use Rattle.history.proofs.PageSteps.{as_slots, image_of-pages, slots-pages, pages-slots, slot_of-pages}
use Rattle.history.proofs.ViewLaws.{image_of-slots_of}

-- a slot is a bank and a page of it
record Split (n p q : ℕ) : Type 0 where
  bank : n / p < q
  page : n % p < p
  again : n / p * p + n % p ≡ n

split : (n p q : ℕ) → n < p * q → Split n p q
split n zero q h = absurd (omega (arith, h))
split n (suc p) q h =
    let some : 0 < suc p = omega arith in
    record {
      bank = (div-lt_iff_lt-mul some).1 (subst (λ (m : ℕ). n < m) (mul_comm (suc p) q) h);
      page = mod-lt n some;
      again = ap (λ (m : ℕ). m + n % suc p) (mul_comm (n / suc p) (suc p)) ∙ div-add-mod n (suc p);
    }

-- what is made of slots is bytes, where each is
in_order-bytes : {A : Type 0} (f : ℕ → A → List ℕ) (s : ℕ) (xs : List A) → Each (λ n x. AllBytes (f n x)) s xs → AllBytes (in_order f s xs)
unfolding in_order
in_order-bytes f s [] h = λ i. lit< tt
in_order-bytes f s (x ∷ xs) h = AllBytes-append (f s x) (in_order f (suc s) xs) h.0 (in_order-bytes f (suc s) xs h.1)

module _ (t : Twofish) (G : Geometry) (s : Schedule t) where
  -- record j of an image, in slot k
  abbrev Own : ℕ → ℕ → List ℕ → Type 0
  Own k j image = looked (deciphered t) (k / G.pages) (k % G.pages) (take 272 (drop (272 * j) image)) ≡ true

  -- slots that are seen as pages are those of the pages that their records hold
  all_pages : (n m : ℕ) (image : List ℕ) → ((j k : ℕ) → k ≡ m + j → j < n → Own k j image) → view t G m n image ≡ as_slots (first_pages t n image)
  unfolding view seen first_pages
  all_pages zero m image own = refl
  all_pages (suc n) m image own =
      let later : (j k : ℕ) → k ≡ suc m + j → j < n → Own k j (drop 272 image) =
      λ j k e l.
      let from : drop (272 * j) (drop 272 image) ≡ drop (272 * suc j) image =
      drop-drop (272 * j) 272 image ∙ ap (λ (i : ℕ). drop i image) (omega arith) in
      ap (λ (x : List ℕ). looked (deciphered t) (k / G.pages) (k % G.pages) (take 272 x)) from ∙ own (suc j) k (omega (arith, e)) (omega (arith, l)) in
      let page : List ℕ = page_of (deciphered t) (take 272 image) in
      ap₂ (λ (x : Slot) (xs : List Slot). x ∷ xs) (ap (λ (b : Bool). cond b (Page page) (Raw (take 272 image))) (own 0 m (omega arith) (omega arith)))
      (all_pages n (suc m) (drop 272 image) later)

  -- an image whose every record is of its place is the sealing afresh of its pages
  pub sealing-pages_of : (image : List ℕ) → Readable t G image → (sealing t G (pages_of t G image) ≡ image) × Pages G (pages_of t G image)
  unfolding pages_of slots_of record_at slot
  sealing-pages_of image h =
      let own : (j k : ℕ) → k ≡ 0 + j → j < G.pages * G.banks → Own k j image =
      λ j k e l.
      let same : k ≡ j = omega (arith, e) in
      let at = split k G.pages G.banks (subst (λ (n : ℕ). n < G.pages * G.banks) (sym same) l) in
      ap (λ (n : ℕ). looked (deciphered t) (k / G.pages) (k % G.pages) (take 272 (drop (272 * n) image))) (sym (at.again ∙ same))
      ∙ h.own (k / G.pages) (k % G.pages) at.bank at.page in
      let v = image_of-slots_of t G s image h.long h.byte in
      let pages = all_pages (G.pages * G.banks) 0 image own in (
        sym (image_of-pages t G (first_pages t (G.pages * G.banks) image)) ∙ ap (image_of t G) (sym pages) ∙ v.0,
        pages-slots t G (first_pages t (G.pages * G.banks) image) (subst (Slots t G) pages v.1),
      )

  -- the reverse: the sealing afresh of any pages is readable
  pub sealing-readable : in_range G ≡ true → (pages : List (List ℕ)) → Pages G pages → Readable t G (sealing t G pages)
  unfolding sealing slot_whose
  sealing-readable g pages h =
      let same = image_of-pages t G pages in
      let slots = slots-pages t G pages h in
      record {
        long = ap (λ (l : List ℕ). length l) (sym same) ∙ image_of-length t G s (as_slots pages) slots;
        byte =
            in_order-bytes (λ n page. sealed (enciphered t) (n / G.pages) (n % G.pages) page) 0 pages
            (Each-map (λ n page. Bytes 256 page) _ (λ n page b. sealed-bytes t (n / G.pages) (n % G.pages) page (omega (arith, b.long))) 0 pages h.each);
        own =
            λ bank page hb hp.
            let there : There G bank page = record { geometry = g; banked = hb; paged = hp } in
            ap (λ (l : List ℕ). looked (deciphered t) bank page (record_at G bank page l)) (sym same)
            ∙ own_looked (deciphered t) bank page _
            (whose-there t G s (as_slots pages) slots bank page there ∙ ap (slot_whose t bank page) (slot_of-pages t G pages h bank page there));
      }

  -- and its pages are those that were sealed
  module _ (g : in_range G ≡ true) where
    unsealed :
        (n m : ℕ) (pages : List (List ℕ)) → length pages ≡ n → Each (λ s page. Bytes 256 page) m pages → m + n ≤ G.pages * G.banks
        → first_pages t n (in_order (λ s page. sealed (enciphered t) (s / G.pages) (s % G.pages) page) m pages) ≡ pages
    unfolding in_order first_pages
    unsealed zero m [] e h l = refl
    unsealed zero m (page ∷ pages) e h l = absurd (omega (arith, e))
    unsealed (suc n) m [] e h l = absurd (omega (arith, e))
    unsealed (suc n) m (page ∷ pages) e h l =
        let at = split m G.pages G.banks (omega (arith, l)) in
        let there : There G (m / G.pages) (m % G.pages) = record { geometry = g; banked = at.bank; paged = at.page } in
        let r : List ℕ = sealed (enciphered t) (m / G.pages) (m % G.pages) page in
        let rest : List ℕ = in_order (λ s page. sealed (enciphered t) (s / G.pages) (s % G.pages) page) (suc m) pages in
        let b : Bytes 256 page = h.0 in
        let long : length r ≡ 272 = sealed-length (enciphered t) (m / G.pages) (m % G.pages) page (enciphered-length t) (omega (arith, b.long)) in
        ap₂ (λ (x : List ℕ) (xs : List (List ℕ)). x ∷ xs)
        (ap (page_of (deciphered t)) (take_at r rest 272 long)
        ∙ page_of-sealed t (m / G.pages) (m % G.pages) s page (bank_byte there) (page_byte there) (omega (arith, b.long)) b.byte
        ∙ filled-page page b.long)
        (ap (first_pages t n) (drop_at r rest 272 long) ∙ unsealed n (suc m) pages (omega (arith, e)) h.1 (omega (arith, l)))

    pub pages_of-sealing : (pages : List (List ℕ)) → Pages G pages → pages_of t G (sealing t G pages) ≡ pages
    unfolding sealing pages_of
    pages_of-sealing pages h = unsealed (G.pages * G.banks) 0 pages h.count h.each (omega arith)
