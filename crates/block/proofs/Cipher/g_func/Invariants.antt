-- The loop of `Cipher::g_func`: result is the word of the rows of MDS over the first j bytes.
use Rattle.std.proofs.Common.{◌≡◌}
use Rattle.words.specs.Word.{word_of}
use Rattle.field.specs.Matrix.{mds_poly, mds, times}
use Rattle.twofish.specs.H.{through, y}
use Rattle.block.specs.Block.{s_list, s_words}
use Rattle.block.proofs.Cipher.g_func.Given as goal

abbrev pub invariant-loop-j : goal.invariant-loop-j
invariant-loop-j l =
    l.result ≡ word_of (times mds_poly mds l.j (through 4 (y (s_list l.self.t.s l.self.t.start) l.x 0 (s_words l.self.t.start))))
