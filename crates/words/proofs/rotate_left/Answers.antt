-- `words::rotate_left` meets its contract: the library's shifts are the rotation, however the code comes to them.
use Rattle.std.proofs.Common.{◌%◌, arith, rules}
use Rattle.words.proofs.Rotate.{rol-word}
use Rattle.words.proofs.rotate_left.Goals as goal

pub returns : goal.returns
returns c =
    let w = rol-word c.args.x (omega arith) (c.args.n % 32) (omega arith) in
    search (w, rules)
