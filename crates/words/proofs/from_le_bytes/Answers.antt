-- `words::from_le_bytes` meets its contract: the library's sum is the number of the bytes.
use Rattle.std.proofs.Common.{ap, ◌∙◌, arith, rules}
use Rattle.words.specs.Word.{word_of}
use Rattle.words.proofs.Bytes.{four, word_of-four}
use Rattle.words.proofs.from_le_bytes.Goals as goal

pub returns : goal.returns
returns c =
    let e = ap word_of (four c.args.b (search rules)) ∙ word_of-four _ _ _ _ in
    omega (arith, c.from_le_bytes.ensures, e)
