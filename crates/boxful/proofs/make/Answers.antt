-- `boxful::make` meets its contract: the patch is taken, so it is made.
use Rattle.std.proofs.Common.{◌≡◌, ℕ, ◌+◌, ◌-◌, ◌^◌, ◌<◌, List, length, take, drop, get_or, sym, ap, ap₂, ◌∙◌, arith, rules}
use Rattle.std.specs.Prelude.{Ok}
use Rattle.std.specs.Result.{result_unwrap_or}
use Rattle.spans.specs.Refusals.{leaves}
use Rattle.spans.proofs.BytesLaws.{AllBytes}
use Rattle.twofish.specs.declared.Twofish.{Twofish}
use Rattle.sealed.specs.declared.Geometry.{Geometry}
use Rattle.twofish.specs.Answers.{answer_at}
use Rattle.twofish.proofs.AnswerLaws.{counted-injective}
use Rattle.block.specs.Block.{enciphered, deciphered}
use Rattle.sealed.specs.Image.{seen_at, other_place, access_number, access_answer, patched_in, patch_count}
use Rattle.boxful.specs.declared.Patch.{Patch}
use Rattle.boxful.specs.Boxful.{written, item_number}
use Rattle.boxful.proofs.ListLaws.{item_taken}
use Rattle.boxful.proofs.PatchedLaws.{patched, taken_number, still_said}
use Rattle.boxful.proofs.make.Goals as goal

-- the part of the lent bytes that the code takes
part_written : (p : Patch) (lent : List ℕ) → take (p.start + p.length - p.start) (drop p.start lent) ≡ written p lent
unfolding written
part_written p lent = let n : p.start + p.length - p.start ≡ p.length = omega arith in ap (λ (k : ℕ). take k (drop p.start lent)) n

pub slice_bounds-part-end : goal.slice_bounds-part-end
slice_bounds-part-end c = (item_taken _ _ _ _ _ c.requires).0

-- the patch is taken by itself, with the bytes that the code takes
taken :
    (t : Twofish) (G : Geometry) (image lent : List ℕ) (p : Patch) → item_number t G image lent p ≡ 0
    → access_number t G image p.bank p.offset (length (take (p.start + p.length - p.start) (drop p.start lent))) ≡ 0
taken t G image lent p e =
    ap (λ (l : List ℕ). access_number t G image p.bank p.offset (length l)) (part_written p lent) ∙ sym (taken_number t G image lent p e)

pub returns : goal.returns
unfolding access_answer answer_at leaves
returns c =
    let a = c.args in
    let t = a.t in
    let lent = a.bytes.now in
    let done = taken t a.geometry a.image.now lent a.patch c.requires in
    let keys : (j : ℕ) → get_or t.k j 0 < 2 ^ 32 = λ j. search rules in
    let byte : AllBytes a.image.now = λ j. search rules in
    let made : c.patch.new.image ≡ patched t a.geometry lent a.patch a.image.now =
    c.patch.ensures.image
    ∙ ap₂ (λ (n : ℕ) (l : List ℕ). leaves n (patched_in (enciphered t) (deciphered t) a.geometry a.patch.bank a.patch.offset l a.image.now) a.image.now) done
    (part_written a.patch lent) in
    record {
      count =
          c.unwrap_or.ensures
          ∙ ap (λ r. result_unwrap_or r 0)
          (counted-injective c.patch.result (Ok (patch_count a.patch.offset)) (c.patch.ensures.outcome ∙ ap (λ (n : ℕ). answer_at (other_place (seen_at t a.geometry a.image.now a.patch.bank a.patch.offset)) n (patch_count a.patch.offset)) done));
      image = made;
      said =
          λ q.
          ap (λ (l : List ℕ). item_number t a.geometry l lent q) made
          ∙ still_said t a.geometry record { keys = keys } a.image.now lent a.patch q byte c.requires;
    }
