-- Each public function's promise admits one outcome.
use mathlib.Core.Path.{sym, ◌∙◌}
use Rattle.words.proofs.Outcome.{OneResult}
use Rattle.field.proofs.double.Reads as double
use Rattle.field.proofs.gf_mult.Reads as gf_mult
use Rattle.field.proofs.mds_column_mult.Reads as mds_column_mult
use Rattle.field.proofs.mds_mult.Reads as mds_mult
use Rattle.field.proofs.rs_mult.Reads as rs_mult

pub double_one : OneResult double.Post
double_one κ a r r' s s' p p' = p ∙ sym p'

pub gf_mult_one : OneResult gf_mult.Post
gf_mult_one κ a r r' s s' p p' = p ∙ sym p'

pub mds_column_mult_one : OneResult mds_column_mult.Post
mds_column_mult_one κ a r r' s s' p p' = p ∙ sym p'

pub mds_mult_one : OneResult mds_mult.Post
mds_mult_one κ a r r' s s' p p' = p ∙ sym p'

pub rs_mult_one : OneResult rs_mult.Post
rs_mult_one κ a r r' s s' p p' = p ∙ sym p'
