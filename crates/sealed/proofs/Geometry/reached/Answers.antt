-- `Geometry::reached` meets its contract: two tests in a row.
use borrow.Author.Tests.{lt-ltb, le-ltb}
use Rattle.sealed.specs.Image.{reached}
use Rattle.sealed.proofs.Geometry.reached.Goals as goal

pub returns-then-bank-self : goal.returns-then-bank-self
unfolding reached
returns-then-bank-self c = simp (lt-ltb _ _ c.if-bank-self.true)

pub returns-else-bank-self : goal.returns-else-bank-self
unfolding reached
returns-else-bank-self c = simp (le-ltb _ _ c.if-bank-self.false)
