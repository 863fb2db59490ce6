-- A list that is taken is the series of its patches: each is done, in order, and its counts are theirs; so what is proved of any series holds of
-- lists.
use Rattle.std.proofs.Common.{◌≡◌, ℕ, suc, ◌+◌, ◌<◌, List, [], ◌∷◌, eqb, cond, length, get_or, map, All, refl, subst, sym, ap, ap₂, ◌∙◌, arith}
use Rattle.std.proofs.lemmas.List.Elements.{All-nil, All-cons, All-map}
use Rattle.spans.proofs.BytesLaws.{AllBytes, AllBytes-take, AllBytes-drop}
use Rattle.twofish.specs.declared.Twofish.{Twofish}
use Rattle.twofish.specs.declared.Answer.{Answer}
use Rattle.twofish.specs.Answers.{nowhere, told, answer_at}
use Rattle.block.specs.Block.{Schedule}
use Rattle.sealed.specs.declared.Geometry.{Geometry}
use Rattle.sealed.specs.Image.{seen_at, other_place, patch_count}
use Rattle.sealed.proofs.PatchFacts.{bytes_after}
use Rattle.history.specs.Calls.{Call, WritesBytes, Outcome, outcome, outcomes, after, at_end, on_image, image_number, image_place, image_next, count}
use Rattle.history.specs.Calls as calls
use Rattle.history.specs.Pages.{on_pages, sealing, Readable, pages_of}
use Rattle.history.proofs.Demand.{readable_image}
use Rattle.boxful.specs.declared.Patch.{Patch}
use Rattle.boxful.specs.Boxful.{written, item_number, judged, all_patched, all_counted}
use Rattle.boxful.proofs.ListLaws.{none, judged_taken}
use Rattle.boxful.proofs.PatchedLaws.{patched, taken_number, still_said}

-- a patch of a list as a call by itself, and the calls of a list
unfoldable pub as_call : List ℕ → Patch → Call
as_call lent p = calls.Patch p.bank p.offset (written p lent)

abbrev pub as_calls : List ℕ → List Patch → List Call
as_calls lent ps = map (as_call lent) ps

-- its calls write bytes
calls_write : (lent : List ℕ) → AllBytes lent → (ps : List Patch) → All WritesBytes (as_calls lent ps)
unfolding as_call written WritesBytes
calls_write lent b ps = All-map WritesBytes (as_call lent) ps (λ k p l. AllBytes-take _ _ (AllBytes-drop _ lent b))

-- a call that is done
abbrev Done : Outcome → Type 0
Done o = o.answer.number ≡ 0

-- the sum of the counts of outcomes
unfoldable pub counts : List Outcome → ℕ
counts [] = 0
counts (o ∷ os) = o.answer.count + counts os

module _ (t : Twofish) (G : Geometry) (s : Schedule t) (lent : List ℕ) where
  -- every patch of a list is taken
  abbrev pub AllTaken : List ℕ → List Patch → Type 0
  AllTaken image ps = (j : ℕ) → j < length ps → item_number t G image lent (get_or ps j none) ≡ 0

  -- one of them as a call: it is done, and leaves what the list's does
  module _ (image : List ℕ) (p : Patch) (e : item_number t G image lent p ≡ 0) where
    call_after : after (on_image t G) (as_call lent p) image ≡ patched t G lent p image
    unfolding after image_number image_next as_call
    call_after = ap (λ (n : ℕ). cond (eqb n 0) (patched t G lent p image) image) (sym (taken_number t G image lent p e))

    call_answer : (outcome (on_image t G) (as_call lent p) image).answer ≡ told 0 (patch_count p.offset) nowhere
    unfolding outcome answer_at image_number image_place as_call count
    call_answer = ap (λ (n : ℕ). answer_at (other_place (seen_at t G image p.bank p.offset)) n (patch_count p.offset)) (sym (taken_number t G image lent p e))

  -- what is left of a list that is taken, after its first patch
  module _ (p : Patch) (ps : List Patch) (image : List ℕ) (b : AllBytes image) (taken : AllTaken image (p ∷ ps)) where
    first : item_number t G image lent p ≡ 0
    first = taken 0 (omega arith)

    rest_bytes : AllBytes (patched t G lent p image)
    rest_bytes = bytes_after t G image p.bank p.offset (written p lent) s b (taken_number t G image lent p first)

    rest_taken : AllTaken (patched t G lent p image) ps
    rest_taken j h = still_said t G s image lent p (get_or ps j none) b first ∙ taken (suc j) (omega (arith, h))

  -- the image after it is that at the end of the series
  pub list_end : (ps : List Patch) (image : List ℕ) → AllBytes image → AllTaken image ps → all_patched t G lent ps image ≡ at_end (on_image t G) (as_calls lent ps) image
  unfolding all_patched at_end
  list_end [] image b taken = refl
  list_end (p ∷ ps) image b taken =
      list_end ps (patched t G lent p image) (rest_bytes p ps image b taken) (rest_taken p ps image b taken)
      ∙ ap (at_end (on_image t G) (as_calls lent ps)) (sym (call_after image p (first p ps image b taken)))

  -- each call of the series is done, and its counts are the list's
  pub list_done :
      (ps : List Patch) (image : List ℕ) → AllBytes image → AllTaken image ps
      → All Done (outcomes (on_image t G) (as_calls lent ps) image)
      × (counts (outcomes (on_image t G) (as_calls lent ps) image) ≡ all_counted ps)
  unfolding outcomes counts all_counted
  list_done [] image b taken = (All-nil Done, refl)
  list_done (p ∷ ps) image b taken =
      let e : item_number t G image lent p ≡ 0 = first p ps image b taken in
      let k = list_done ps (patched t G lent p image) (rest_bytes p ps image b taken) (rest_taken p ps image b taken) in
      let same = ap (outcomes (on_image t G) (as_calls lent ps)) (sym (call_after image p e)) in
      let answered = call_answer image p e in (
        All-cons Done _ _ (ap (λ (a : Answer). a.number) answered) (subst (All Done) same k.0),
        ap₂ ◌+◌ (ap (λ (a : Answer). a.count) answered) (ap counts (sym same) ∙ k.1),
      )

-- so demand 3 holds of a list as of its patches: on an image whose every record is readable, a list that is taken leaves the sealing afresh of the
-- image's pages with the patches applied in order
pub list_on_readable :
    (t : Twofish) (G : Geometry) (s : Schedule t) (image : List ℕ) → Readable t G image → (lent : List ℕ) → AllBytes lent → (ps : List Patch)
    → (judged t G image ps lent).number ≡ 0
    → all_patched t G lent ps image ≡ sealing t G (at_end (on_pages t G) (as_calls lent ps) (pages_of t G image))
list_on_readable t G s image h lent b ps e =
    list_end t G s lent ps image h.byte (judged_taken t G image ps lent e).1 ∙ readable_image t G s (as_calls lent ps) (calls_write lent b ps) image h
