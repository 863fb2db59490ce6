-- Each public function's promise admits one outcome.
use mathlib.Core.Path.{sym, ◌∙◌}
use Rattle.words.proofs.Outcome.{OneResult}
use Rattle.sbox.proofs.rows.Reads as rows
use Rattle.sbox.proofs.order.Reads as order
use Rattle.sbox.proofs.sbox.Reads as sbox
use Rattle.sbox.proofs.permuted_at.Reads as permuted_at

pub rows_one : OneResult rows.Post
rows_one κ a r r' s s' p p' = p ∙ sym p'

pub order_one : OneResult order.Post
order_one κ a r r' s s' p p' = p ∙ sym p'

pub sbox_one : OneResult sbox.Post
sbox_one κ a r r' s s' p p' = p ∙ sym p'

pub permuted_at_one : OneResult permuted_at.Post
permuted_at_one κ a r r' s s' p p' = p ∙ sym p'
