-- Demand 3: any series of calls on a sealed image goes as on its plain image, and leaves the sealing afresh of that.
use Rattle.std.proofs.Common.{◌≡◌, ◌≢◌, ℕ, true, List, length, All, sym, ap, subst, ◌∙◌}
use Rattle.twofish.specs.declared.Twofish.{Twofish}
use Rattle.twofish.specs.Answers.{answer_at}
use Rattle.block.specs.Block.{Schedule}
use Rattle.spans.proofs.BytesLaws.{AllBytes}
use Rattle.sealed.specs.declared.Geometry.{Geometry}
use Rattle.sealed.specs.Image.{in_range, image_length}
use Rattle.history.specs.Calls.{Call, WritesBytes, on_image, outcome, outcomes, at_end}
use Rattle.history.specs.Slots.{Slot, on_slots, image_of, Slots, slots_of}
use Rattle.history.specs.Pages.{pages_number, on_pages, sealing, Pages, Readable, pages_of}
use Rattle.history.proofs.RunLaws.{Goes, goes, All-outcomes}
use Rattle.history.proofs.ImageSteps.{image_follows}
use Rattle.history.proofs.PageSteps.{as_slots, pages_follow, image_of-pages, slots-pages, never}
use Rattle.history.proofs.ViewLaws.{image_of-slots_of}
use Rattle.history.proofs.ReadableLaws.{sealing-pages_of, sealing-readable}

-- any calls, refused or done, under any schedule of words; no call is done under a start above 2 or a geometry out of range
module _ (t : Twofish) (G : Geometry) (s : Schedule t) (calls : List Call) (bytes : All WritesBytes calls) where
  on_any_slots : (slots : List Slot) → Slots t G slots → Goes (on_image t G) (on_slots t G) (image_of t G) (Slots t G) calls slots
  on_any_slots slots h = goes _ _ _ _ (λ c y b p. image_follows t G s y p c b) calls slots bytes h

  on_any_pages : (pages : List (List ℕ)) → Pages G pages → Goes (on_slots t G) (on_pages t G) as_slots (Pages G) calls pages
  on_any_pages pages h = goes _ _ _ _ (λ c y b p. pages_follow t G y p c b) calls pages bytes h

  -- on the sealing afresh of any slots each call comes to what it comes to on the slots, and the image at the end is the sealing afresh of theirs
  pub slots_followed :
      (slots : List Slot) → Slots t G slots
      → (outcomes (on_image t G) calls (image_of t G slots) ≡ outcomes (on_slots t G) calls slots)
      × (at_end (on_image t G) calls (image_of t G slots) ≡ image_of t G (at_end (on_slots t G) calls slots))
  slots_followed slots h = let g = on_any_slots slots h in (g.same, g.end)

  -- so it does on any image, with records that are not readable too, as each is the sealing afresh of its slots
  pub image_followed :
      (image : List ℕ) → length image ≡ image_length G → AllBytes image
      → (outcomes (on_image t G) calls image ≡ outcomes (on_slots t G) calls (slots_of t G image))
      × (at_end (on_image t G) calls image ≡ image_of t G (at_end (on_slots t G) calls (slots_of t G image)))
  image_followed image long b =
      let v = image_of-slots_of t G s image long b in
      let f = slots_followed (slots_of t G image) v.1 in
      (ap (outcomes (on_image t G) calls) (sym v.0) ∙ f.0, ap (at_end (on_image t G) calls) (sym v.0) ∙ f.1)

  -- where every record is readable: the sealing afresh of a plain image
  module _ (pages : List (List ℕ)) (h : Pages G pages) where
    -- each call comes to what it comes to on the plain image; so an accepted read gives the plain bytes as they then stand
    pub plain_outcomes : outcomes (on_image t G) calls (sealing t G pages) ≡ outcomes (on_pages t G) calls pages
    plain_outcomes =
        ap (outcomes (on_image t G) calls) (sym (image_of-pages t G pages))
        ∙ (on_any_slots (as_slots pages) (slots-pages t G pages h)).same
        ∙ (on_any_pages pages h).same

    -- the image at the end is the sealing afresh of the plain image with the accepted writes applied in order
    pub plain_image : at_end (on_image t G) calls (sealing t G pages) ≡ sealing t G (at_end (on_pages t G) calls pages)
    plain_image =
        ap (at_end (on_image t G) calls) (sym (image_of-pages t G pages))
        ∙ (on_any_slots (as_slots pages) (slots-pages t G pages h)).end
        ∙ ap (image_of t G) (on_any_pages pages h).end
        ∙ image_of-pages t G (at_end (on_pages t G) calls pages)

    -- every slot holds a page still
    pub all_readable : Pages G (at_end (on_pages t G) calls pages)
    all_readable = (on_any_pages pages h).kept

    -- and no call is refused by 8, nor by 11
    none_by : (n : ℕ) → ((c : Call) → pages_number t G c ≢ n) → All (λ o. o.answer.number ≢ n) (outcomes (on_image t G) calls (sealing t G pages))
    unfolding outcome answer_at
    none_by n none = subst (All (λ o. o.answer.number ≢ n)) (sym plain_outcomes) (All-outcomes (on_pages t G) (λ o. o.answer.number ≢ n) (λ c y. none c) calls pages)

    pub no_eight : All (λ o. o.answer.number ≢ 8) (outcomes (on_image t G) calls (sealing t G pages))
    no_eight = none_by 8 (λ c. (never t G c).0)

    pub no_eleven : All (λ o. o.answer.number ≢ 11) (outcomes (on_image t G) calls (sealing t G pages))
    no_eleven = none_by 11 (λ c. (never t G c).1)

  -- so on any image whose every record is of its place, which is the sealing afresh of its pages
  module _ (image : List ℕ) (h : Readable t G image) where
    pub readable_outcomes : outcomes (on_image t G) calls image ≡ outcomes (on_pages t G) calls (pages_of t G image)
    readable_outcomes =
        let p = sealing-pages_of t G s image h in
        ap (outcomes (on_image t G) calls) (sym p.0) ∙ plain_outcomes (pages_of t G image) p.1

    pub readable_image : at_end (on_image t G) calls image ≡ sealing t G (at_end (on_pages t G) calls (pages_of t G image))
    readable_image =
        let p = sealing-pages_of t G s image h in
        ap (at_end (on_image t G) calls) (sym p.0) ∙ plain_image (pages_of t G image) p.1

    -- and every record is of its place still
    pub still_readable : in_range G ≡ true → Readable t G (at_end (on_image t G) calls image)
    still_readable g =
        let p = sealing-pages_of t G s image h in
        subst (Readable t G) (sym readable_image) (sealing-readable t G s g (at_end (on_pages t G) calls (pages_of t G image)) (all_readable (pages_of t G image) p.1))
