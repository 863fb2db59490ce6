-- The loop of `field::mds_mult`: z is the word of the rows over the first i bytes.
use Rattle.std.proofs.Common.{◌≡◌}
use Rattle.words.specs.Word.{word_of}
use Rattle.field.specs.Matrix.{mds_poly, mds, times}
use Rattle.field.proofs.mds_mult.Given as goal

abbrev pub invariant-loop-i : goal.invariant-loop-i
invariant-loop-i l = l.z ≡ word_of (times mds_poly mds l.i l.fn.y)
