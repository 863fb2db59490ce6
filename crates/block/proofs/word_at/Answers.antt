-- `block::word_at` meets its contract: the four bytes of the word.
use Rattle.twofish.specs.Lists.{word_at}
use Rattle.block.proofs.word_at.Goals as goal

pub returns : goal.returns
unfolding word_at
returns c = c.from_le_bytes.ensures
