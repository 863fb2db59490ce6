-- `Cipher::unround` meets its contract: the words moved back, with the same F0 and F1.
use Rattle.block.specs.Rounds.{unround}
use Rattle.block.specs.Block.{subkey}
use Rattle.block.proofs.Cipher.unround.Goals as goal

pub returns : goal.returns
unfolding unround subkey
returns c = cc (c.f_func-f0.ensures.first, c.f_func-f0.ensures.second)
