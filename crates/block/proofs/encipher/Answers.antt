-- `block::encipher` meets its contract: the block turned is the block enciphered.
use Rattle.block.specs.Block.{enciphered}
use Rattle.block.proofs.encipher.Goals as goal

pub returns-clause-block : goal.returns-clause-block
unfolding enciphered
returns-clause-block c = c.turn_block.ensures.block
