-- `Geometry::offset_reached` meets its contract: two tests in a row.
use borrow.Author.Tests.{lt-ltb, le-ltb}
use Rattle.sealed.specs.Image.{offset_reached}
use Rattle.sealed.proofs.Geometry.offset_reached.Goals as goal

pub returns-then-bank-self : goal.returns-then-bank-self
unfolding offset_reached
returns-then-bank-self c = simp (lt-ltb _ _ c.if-bank-self.true)

pub returns-else-bank-self : goal.returns-else-bank-self
unfolding offset_reached
returns-else-bank-self c = simp (le-ltb _ _ c.if-bank-self.false)
