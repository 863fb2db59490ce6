-- `sealed::judge` meets its contract: the conditions in document 01's order.
use Rattle.std.proofs.Common.{sym, ◌∙◌, arith}
use borrow.Author.Tests.{lt-ltb, le-ltb, eq-eqb, ne_eqb}
use Rattle.spans.specs.Refusals.{given}
use Rattle.twofish.specs.Answers.{answer_at}
use Rattle.sealed.specs.Image.{image_length, image_refusals, image_number}
use Rattle.sealed.proofs.ImageLaws.{few_records}
use Rattle.sealed.proofs.judge.Goals as goal

pub returns-then-t-gt2 : goal.returns-then-t-gt2
unfolding image_number image_refusals given answer_at
returns-then-t-gt2 c = simp (lt-ltb _ _ c.if-t-gt2.true)

pub returns-then-not-in_range : goal.returns-then-not-in_range
unfolding image_number image_refusals given answer_at
returns-then-not-in_range c = simp (le-ltb _ _ c.if-t-gt2.false, sym c.in_range.ensures, c.if-not-in_range.true)

pub overflow_mul-geometry-2 : goal.overflow_mul-geometry-2
overflow_mul-geometry-2 c =
    let m = few_records c.args.geometry (sym c.in_range.ensures ∙ c.if-not-in_range.false) in omega (arith, m)

pub returns-then-long-geometry : goal.returns-then-long-geometry
unfolding image_number image_refusals given image_length answer_at
returns-then-long-geometry c = simp (le-ltb _ _ c.if-t-gt2.false, sym c.in_range.ensures, c.if-not-in_range.false, ne_eqb _ _ c.if-long-geometry.true)

pub returns : goal.returns
unfolding image_number image_refusals given image_length answer_at
returns c = simp (le-ltb _ _ c.if-t-gt2.false, sym c.in_range.ensures, c.if-not-in_range.false, eq-eqb _ _ c.if-long-geometry.false)
