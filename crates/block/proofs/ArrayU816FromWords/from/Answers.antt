-- The block of four words is what its conversion promises: four words one after the other.
use Rattle.std.proofs.Common.{refl}
use Rattle.block.proofs.Bytes16.{put_all}
use Rattle.block.proofs.ArrayU816FromWords.from.Goals as goal

pub returns : goal.returns
returns c =
    put_all _ _ _ _ _ c.args.w refl c.put_word.ensures c.put_word-2.ensures c.put_word-3.ensures c.put_word-4.ensures
