-- Each public function's promise admits one outcome.
use Rattle.std.proofs.Common.{sym, ◌∙◌}
use Rattle.words.proofs.Outcome.{OneResult, OneOutcome}
use Rattle.twofish.proofs.AnswerLaws.{answered-injective, counted-injective}
use Rattle.sealed.proofs.judge.Reads as judge
use Rattle.sealed.proofs.find.Reads as find
use Rattle.sealed.proofs.seal.Reads as seal
use Rattle.sealed.proofs.look.Reads as look
use Rattle.sealed.proofs.read.Reads as read
use Rattle.sealed.proofs.patch.Reads as patch

pub seal_one : OneOutcome seal.Post (λ κ s. s.1.1.0.now)
seal_one κ a r r' s s' p p' = (counted-injective r r' (p.0 ∙ sym p'.0), p.1 ∙ sym p'.1)

pub look_one : OneResult look.Post
look_one κ a r r' s s' p p' = p ∙ sym p'

pub read_one : OneOutcome read.Post (λ κ s. s.1.1.1.1.1.0.now)
read_one κ a r r' s s' p p' = (counted-injective r r' (p.0 ∙ sym p'.0), p.1 ∙ sym p'.1)

pub patch_one : OneOutcome patch.Post (λ κ s. s.1.1.0.now)
patch_one κ a r r' s s' p p' = (counted-injective r r' (p.0 ∙ sym p'.0), p.1 ∙ sym p'.1)

pub judge_one : OneResult judge.Post
judge_one κ a r r' s s' p p' = answered-injective r r' (p ∙ sym p')

pub find_one : OneResult find.Post
find_one κ a r r' s s' p p' = counted-injective r r' (p ∙ sym p')
