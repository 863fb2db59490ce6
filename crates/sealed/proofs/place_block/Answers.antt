-- `sealed::place_block` meets its contract: the two bytes of the place, and the zeros.
use Rattle.std.proofs.Common.{refl}
use Rattle.sealed.specs.Record.{place_block}
use Rattle.sealed.proofs.place_block.Goals as goal

pub returns : goal.returns
unfolding place_block
returns c = refl
