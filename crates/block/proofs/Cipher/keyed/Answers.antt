-- `Cipher::keyed` meets its contract: a subkey is an element of the schedule's list.
use Rattle.std.proofs.Common.{refl}
use Rattle.block.specs.Block.{subkey}
use Rattle.block.proofs.Cipher.keyed.Goals as goal

pub returns : goal.returns
unfolding subkey
returns c = refl
