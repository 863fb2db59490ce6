-- `block::decipher` meets its contract: the block turned is the block deciphered.
use Rattle.block.specs.Block.{deciphered}
use Rattle.block.proofs.decipher.Goals as goal

pub returns-clause-block : goal.returns-clause-block
unfolding deciphered
returns-clause-block c = c.turn_block.ensures.block
