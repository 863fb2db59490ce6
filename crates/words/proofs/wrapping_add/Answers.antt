-- `words::wrapping_add` meets its contract: the sum of the library is the sum modulo 2^32.
use Rattle.std.proofs.Common.{refl}
use Rattle.words.specs.Word.{sum32}
use Rattle.words.proofs.wrapping_add.Goals as goal

pub returns : goal.returns
unfolding sum32
returns c = refl
