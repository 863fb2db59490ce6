-- `sbox::rows` meets its contract: the static is the paper's table.
use Rattle.std.proofs.Common.{refl}
use Rattle.sbox.specs.Q.{qbox}
use Rattle.sbox.proofs.rows.Goals as goal

pub returns : goal.returns
unfolding qbox
returns c = refl
