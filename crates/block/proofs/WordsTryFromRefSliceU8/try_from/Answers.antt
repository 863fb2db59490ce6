-- The four words of a buffer are what their conversion promises: those of its 16 bytes.
use Rattle.block.specs.Block.{words_of}
use Rattle.block.proofs.WordsTryFromRefSliceU8.try_from.Goals as goal

pub returns : goal.returns
unfolding words_of
returns c =
    let whole = c.in-Ok.ensures.1 in
    let same = whole.same in
    (whole.long, cc)
