-- Laws of patches made one by one: each is taken on what those before it left as it was on the image as it came.
use Rattle.std.proofs.Common.{◌≡◌, ℕ, ◌+◌, ◌<◌, List, cond, length, drop, get_or, sym, ap, ◌∙◌}
use Rattle.std.proofs.lemmas.List.{at_drop_more}
use Rattle.spans.proofs.BytesLaws.{AllBytes}
use Rattle.twofish.specs.declared.Twofish.{Twofish}
use Rattle.block.specs.Block.{enciphered, deciphered, Schedule}
use Rattle.sealed.specs.declared.Geometry.{Geometry}
use Rattle.sealed.specs.Image.{access_number, patched_in, patch_count}
use Rattle.sealed.proofs.PatchFacts.{number_kept}
use Rattle.boxful.specs.declared.Patch.{Patch}
use Rattle.boxful.specs.Boxful.{written, outside, item_number, all_patched, all_counted}
use Rattle.boxful.proofs.ListLaws.{none, item_taken, written-length}

-- an image after a patch of a list
abbrev pub patched : Twofish → Geometry → List ℕ → Patch → List ℕ → List ℕ
patched t G lent p image = patched_in (enciphered t) (deciphered t) G p.bank p.offset (written p lent) image

pub taken_number : (t : Twofish) (G : Geometry) (image lent : List ℕ) (p : Patch) → item_number t G image lent p ≡ 0 → 0 ≡ access_number t G image p.bank p.offset (length (written p lent))
taken_number t G image lent p e =
    let k = item_taken t G image lent p e in k.1 ∙ ap (access_number t G image p.bank p.offset) (sym (written-length p lent k.0))

-- what is said of a patch stays as it was
pub still_said :
    (t : Twofish) (G : Geometry) (s : Schedule t) (image lent : List ℕ) (p q : Patch) → AllBytes image → item_number t G image lent p ≡ 0
    → item_number t G (patched t G lent p image) lent q ≡ item_number t G image lent q
unfolding item_number
still_said t G s image lent p q byte e =
    ap (λ (n : ℕ). cond (outside q lent) 9 n)
    (number_kept t G image p.bank p.offset (written p lent) s byte (taken_number t G image lent p e) q.bank q.offset q.length)

module _ (ps : List Patch) (i : ℕ) (h : i < length ps) where
  pub one_more :
      (t : Twofish) (G : Geometry) (lent image : List ℕ)
      → all_patched t G lent (drop i ps) image ≡ all_patched t G lent (drop (i + 1) ps) (patched t G lent (get_or ps i none) image)
  unfolding all_patched
  one_more t G lent image = at_drop_more (λ l. all_patched t G lent l image) ps i none h

  pub count_more : all_counted (drop i ps) ≡ patch_count (get_or ps i none).offset + all_counted (drop (i + 1) ps)
  unfolding all_counted
  count_more = at_drop_more all_counted ps i none h
