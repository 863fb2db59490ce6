-- `sealed::within_page` meets its contract: two tests in a row.
use Rattle.std.proofs.Common.{sym, ◌∙◌, arith}
use Rattle.sealed.specs.Image.{within_page}
use Rattle.sealed.proofs.ImageLaws.{up_to_256-true}
use Rattle.sealed.proofs.within_page.Goals as goal

pub overflow_add-result : goal.overflow_add-result
overflow_add-result c = let b = up_to_256-true _ (sym c.up_to_256.ensures ∙ c.if-up_to_256.true) in omega (arith, b.1)

pub returns-then-up_to_256 : goal.returns-then-up_to_256
unfolding within_page
returns-then-up_to_256 c = simp (sym c.up_to_256.ensures, c.if-up_to_256.true)

pub returns-else-up_to_256 : goal.returns-else-up_to_256
unfolding within_page
returns-else-up_to_256 c = simp (sym c.up_to_256.ensures, c.if-up_to_256.false)
