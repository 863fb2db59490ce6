-- `Cipher::round` meets its contract: the words moved on, with F0 and F1.
use Rattle.block.specs.Rounds.{round}
use Rattle.block.specs.Block.{subkey}
use Rattle.block.proofs.Cipher.round.Goals as goal

pub returns : goal.returns
unfolding round subkey
returns c = cc (c.f_func-f0.ensures.first, c.f_func-f0.ensures.second)
