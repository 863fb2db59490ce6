-- Each public function's promise admits one outcome.
use Rattle.std.proofs.Common.{sym, ◌∙◌}
use Rattle.words.proofs.Outcome.{OneResult, OneOutcome}
use Rattle.settings.proofs.AnswerLaws.{added-injective, reading-injective}
use Rattle.settings.proofs.U32FromRefusal.from.Reads as number
use Rattle.settings.proofs.AddedFromResultU32Refused.from.Reads as added
use Rattle.settings.proofs.ReadingFromResultArrayU32SETTINGSRefusal.from.Reads as reading
use Rattle.settings.proofs.set.Reads as set
use Rattle.settings.proofs.go_back.Reads as go_back
use Rattle.settings.proofs.read.Reads as read

pub number_one : OneResult number.Post
number_one κ a r r' s s' p p' = p ∙ sym p'

pub added_from_one : OneResult added.Post
added_from_one κ a r r' s s' p p' = p ∙ sym p'

pub reading_from_one : OneResult reading.Post
reading_from_one κ a r r' s s' p p' = p ∙ sym p'

pub set_one : OneOutcome set.Post (λ κ s. s.0.now)
set_one κ a r r' s s' p p' = (added-injective r r' (p.0 ∙ sym p'.0), p.1 ∙ sym p'.1)

pub go_back_one : OneOutcome go_back.Post (λ κ s. s.0.now)
go_back_one κ a r r' s s' p p' = (added-injective r r' (p.0 ∙ sym p'.0), p.1 ∙ sym p'.1)

pub read_one : OneResult read.Post
read_one κ a r r' s s' p p' = reading-injective r r' (p ∙ sym p')
