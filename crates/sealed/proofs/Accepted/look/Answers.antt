-- `Accepted::look` meets its contract: the zeros after the bytes of a place, and those bytes.
use Rattle.std.proofs.Common.{◌≡◌, ℕ, ◌≤◌, Bool, true, false, List, length, take, drop, replicate, get_or, ◌&&◌, eqb, cond, refl, sym, ap, ◌∙◌, arith}
use lib.Pointwise.{pointwise}
use Rattle.twofish.specs.declared.Twofish.{Twofish}
use Rattle.sealed.specs.declared.Seen.{Seen}
use Rattle.sealed.specs.declared.Seen.TheVariants.{Own, Other, NoPlace}
use Rattle.sealed.specs.Record.{place_named, whose}
use borrow.Author.Tests.{eq-eqb, ne_eqb, not-true, not-false}
use lib.Seq.{length-take-le}
use Rattle.spans.specs.Parts.{splice}
use Rattle.spans.proofs.PartsLaws.{splice_whole}
use Rattle.block.specs.Block.{deciphered, block_number}
use Rattle.block.proofs.ThereAndBack.{deciphered-length}
use Rattle.sealed.proofs.Blocks.{taken_block}
use Rattle.sealed.proofs.RecordLaws.{whose_split}
use Rattle.sealed.proofs.Accepted.look.Goals as goal
use Rattle.sealed.proofs.Accepted.look.Goals.{else-held-bank-via-then-held-bank+else-held-page, else-held-bank-via-else-held-bank}

-- what the first block of a record deciphers to, looked at byte by byte
seen :
    (t : Twofish) (b p : ℕ) (r x w : List ℕ) → t.start ≤ 2 → length r ≡ 272 → x ≡ splice 0 (take 16 r) (replicate 16 0)
    → w ≡ cond (eqb (block_number t x) 0) (deciphered t x) x
    → let zeros : Bool = pointwise eqb (take 14 (drop 2 w)) (replicate 14 0) in
    whose (deciphered t) b p r ≡ cond (eqb (get_or w 0 0) b && (eqb (get_or w 1 0) p && zeros)) Own (cond zeros (Other (place_named w)) NoPlace)
seen t b p r x w start h ex ew =
    let long : length (take 16 r) ≡ 16 = length-take-le 16 r (omega (arith, h)) in
    let l : x ≡ take 16 r = ex ∙ splice_whole (take 16 r) (replicate 16 0) long in
    let made : w ≡ deciphered t (take 16 r) = ew ∙ taken_block t x (deciphered t x) start (ap length l ∙ long) ∙ ap (deciphered t) l in
    whose_split (deciphered t) b p r w made (ap length made ∙ deciphered-length t (take 16 r))

-- without the zeros it is no place's, whatever its first two bytes
no_place : (a b z : Bool) (other : Seen) → z ≡ false → cond (a && (b && z)) Own (cond z other NoPlace) ≡ NoPlace
no_place true true z other e = rw e refl
no_place true false z other e = rw e refl
no_place false b z other e = rw e refl

pub returns-then-ne : goal.returns-then-ne
returns-then-ne c =
    let a = c.args in
    let e = seen a.self.now.t a.bank a.page a.blocks.now _ _ a.self.now.start c.requires c.block-first.ensures c.decipher.ensures.block in
    sym (e ∙ no_place _ _ _ _ (not-true _ (sym c.ne.ensures ∙ c.if-ne.true)))

pub returns-then-held-page : goal.returns-then-held-page
returns-then-held-page c =
    let a = c.args in
    let e = seen a.self.now.t a.bank a.page a.blocks.now _ _ a.self.now.start c.requires c.block-first.ensures c.decipher.ensures.block in
    let zeros = not-false _ (sym c.ne.ensures ∙ c.if-ne.false) in
    sym (e ∙ simp (eq-eqb _ _ c.if-held-bank.true, eq-eqb _ _ c.if-held-page.true, zeros))

pub returns-else-held-bank : goal.returns-else-held-bank
unfolding place_named
returns-else-held-bank c =
    let a = c.args in
    let e = seen a.self.now.t a.bank a.page a.blocks.now _ _ a.self.now.start c.requires c.block-first.ensures c.decipher.ensures.block in
    let zeros = not-false _ (sym c.ne.ensures ∙ c.if-ne.false) in
    elim c.else-held-bank.branch [
      | else-held-bank-via-then-held-bank+else-held-page w ↦ sym (e ∙ simp (eq-eqb _ _ w.if-held-bank.true, ne_eqb _ _ w.if-held-page.false, zeros))
      | else-held-bank-via-else-held-bank w ↦ sym (e ∙ simp (ne_eqb _ _ w.if-held-bank.false, zeros))
    ]
