-- `field::rs_mult` meets its contract: the constant table is the paper's matrix, and each byte is its row.
use Rattle.field.specs.Matrix.{rs, entry, row_times, times}
use Rattle.field.proofs.rs_mult.Goals as goal

pub returns : goal.returns
unfolding rs entry row_times times
returns c = cc
