-- `words::rotate_right` meets its contract: the library's shifts are the rotation.
use Rattle.std.proofs.Common.{◌%◌, ◌∙◌, arith}
use Rattle.words.proofs.Rotate.{ror-word}
use Rattle.words.proofs.rotate_right.Goals as goal

pub returns : goal.returns
returns c = c.rotate_right.ensures ∙ ror-word c.args.x (omega arith) (c.args.n % 32) (omega arith)
