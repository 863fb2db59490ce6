-- Each public function's promise admits one outcome.
use Rattle.std.proofs.Common.{refl, sym, ◌∙◌}
use Rattle.words.proofs.Outcome.{OneResult, OneOutcome}
use Rattle.masks.proofs.mark.Reads as mark
use Rattle.masks.proofs.ones.Reads as ones
use Rattle.masks.proofs.next.Reads as next

pub mark_one : OneOutcome mark.Post (λ κ s. s.0.now)
mark_one κ a r r' s s' p p' = (refl, p ∙ sym p')

pub ones_one : OneResult ones.Post
ones_one κ a r r' s s' p p' = p ∙ sym p'

pub next_one : OneResult next.Post
next_one κ a r r' s s' p p' = p ∙ sym p'
