-- `sealed::up_to_256` meets its contract: two tests in a row.
use borrow.Author.Tests.{lt-ltb, le-ltb}
use Rattle.sealed.specs.Image.{up_to_256}
use Rattle.sealed.proofs.up_to_256.Goals as goal

pub returns-then-n-gt0 : goal.returns-then-n-gt0
unfolding up_to_256
returns-then-n-gt0 c = simp (lt-ltb _ _ c.if-n-gt0.true)

pub returns-else-n-gt0 : goal.returns-else-n-gt0
unfolding up_to_256
returns-else-n-gt0 c = simp (le-ltb _ _ c.if-n-gt0.false)
