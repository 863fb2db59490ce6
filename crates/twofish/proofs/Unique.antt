-- Each public function's promise admits one outcome, the constant for a refused key is what set-up hands back, and the sizes are document 01's.
use Rattle.std.proofs.Common.{◌≡◌, refl, sym, ◌∙◌}
use Rattle.words.proofs.Outcome.{OneResult}
use Rattle.twofish.specs.Schedule.{refused}
use Rattle.twofish.specs.declared.TheConstants.Twofish.{BLOCK, SUBKEYS, REFUSED}
use Rattle.twofish.proofs.AnswerLaws.{handed_back-injective}
use Rattle.twofish.proofs.U32FromRefusal.from.Reads as number
use Rattle.twofish.proofs.Refusal.location.Reads as location
use Rattle.twofish.proofs.AnswerFromRefusal.from.Reads as answer_from_refusal
use Rattle.twofish.proofs.AnswerFromResultUnitRefusal.from.Reads as answer_from
use Rattle.twofish.proofs.AnswerFromResultU32Refusal.from.Reads as answer_from_count
use Rattle.twofish.proofs.Twofish.new.Reads as new

pub number_one : OneResult number.Post
number_one κ a r r' s s' p p' = p ∙ sym p'

pub location_one : OneResult location.Post
location_one κ a r r' s s' p p' = p ∙ sym p'

pub answer_from_refusal_one : OneResult answer_from_refusal.Post
answer_from_refusal_one κ a r r' s s' p p' = p ∙ sym p'

pub answer_from_one : OneResult answer_from.Post
answer_from_one κ a r r' s s' p p' = p ∙ sym p'

pub answer_from_count_one : OneResult answer_from_count.Post
answer_from_count_one κ a r r' s s' p p' = p ∙ sym p'

pub new_one : OneResult new.Post
new_one κ a r r' s s' p p' = handed_back-injective r r' (p ∙ sym p')

pub refused_constant : REFUSED ≡ refused
unfolding refused
refused_constant = refl

pub block_constant : BLOCK ≡ 16
block_constant = refl

pub subkeys_constant : SUBKEYS ≡ 40
subkeys_constant = refl
