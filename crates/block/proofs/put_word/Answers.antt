-- `block::put_word` meets its contract: the bytes of a word in the place of four.
use Rattle.std.proofs.Common.{ℕ, ◌*◌, List, length, ap, ◌∙◌, arith}
use Rattle.words.specs.Word.{bytes_of}
use Rattle.spans.specs.Parts.{splice}
use Rattle.spans.proofs.PartsLaws.{mid_splice}
use Rattle.block.proofs.put_word.Goals as goal

pub returns : goal.returns
unfolding bytes_of
returns c =
    let e = c.copy_from_slice.ensures.after ∙ c.to_le_bytes.ensures in
    mid_splice (4 * c.args.i) _ _ c.args.b.now (ap length e ∙ omega arith)
    ∙ ap (λ (l : List ℕ). splice (4 * c.args.i) l c.args.b.now) e
