-- `field::mds_mult` meets its contract: a turn adds a column.
use Rattle.std.proofs.Common.{refl, arith}
use Rattle.words.specs.Word.{word_of}
use Rattle.field.specs.Matrix.{times, row_times}
use Rattle.field.proofs.Rows.{columns_more}
use Rattle.field.proofs.mds_mult.Goals as goal

pub loop-i-init : goal.loop-i-init
unfolding word_of times row_times
loop-i-init c = refl

pub loop-i-preserved : goal.loop-i-preserved
loop-i-preserved c =
    columns_more c.args.y c.loop-i.i c.loop-i.z _ (omega arith) c.loop-i.invariant c.mds_column_mult-z.ensures
