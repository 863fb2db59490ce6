-- `sbox::order` meets its contract: the static is the paper's order.
use Rattle.std.proofs.Common.{refl}
use Rattle.sbox.specs.Q.{qord}
use Rattle.sbox.proofs.order.Goals as goal

pub returns : goal.returns
unfolding qord
returns c = refl
