-- `Geometry::in_range` meets its contract: two tests in a row.
use Rattle.std.proofs.Common.{sym}
use Rattle.sealed.specs.Image.{in_range}
use Rattle.sealed.proofs.Geometry.in_range.Goals as goal

pub returns-then-up_to_256 : goal.returns-then-up_to_256
unfolding in_range
returns-then-up_to_256 c = simp (sym c.up_to_256.ensures, c.if-up_to_256.true) c.up_to_256-then-up_to_256.ensures

pub returns-else-up_to_256 : goal.returns-else-up_to_256
unfolding in_range
returns-else-up_to_256 c = simp (sym c.up_to_256.ensures, c.if-up_to_256.false)
