-- The promise of each public function admits one outcome.
use mathlib.Core.Path.{refl, sym, ◌∙◌}
use Rattle.words.proofs.Outcome.{OneResult, OneOutcome}
use Rattle.spans.proofs.least.Reads as least
use Rattle.spans.proofs.copy.Reads as copy
use Rattle.spans.proofs.xor.Reads as xor
use Rattle.spans.proofs.fill.Reads as fill
use Rattle.spans.proofs.block.Reads as block

pub least_one : OneResult least.Post
least_one κ a r r' s s' p p' = p ∙ sym p'

pub copy_one : OneOutcome copy.Post (λ κ s. s.0.now)
copy_one κ a r r' s s' p p' = (refl, p ∙ sym p')

pub xor_one : OneOutcome xor.Post (λ κ s. s.0.now)
xor_one κ a r r' s s' p p' = (refl, p ∙ sym p')

pub fill_one : OneOutcome fill.Post (λ κ s. s.0.now)
fill_one κ a r r' s s' p p' = (refl, p ∙ sym p')

pub block_one : OneResult block.Post
block_one κ a r r' s s' p p' = p ∙ sym p'
