-- Each public function's promise admits one outcome.
use Rattle.std.proofs.Common.{◌≡◌, ℕ, sym, ap, ap₂, ◌∙◌}
use Rattle.std.specs.Prelude.{Result, Ok, Err}
use Rattle.words.proofs.Outcome.{OneResult, OneOutcome}
use Rattle.twofish.specs.declared.Refusal.{Refusal}
use Rattle.twofish.proofs.AnswerLaws.{never_done, refusal-injective}
use Rattle.boxful.specs.declared.Refused.{Refused}
use Rattle.boxful.specs.declared.ListAnswer.{ListAnswer}
use Rattle.boxful.specs.Boxful.{listed}
use Rattle.boxful.proofs.ListAnswerFromResultU32Refused.from.Reads as answer
use Rattle.boxful.proofs.patch_all.Reads as patch_all

-- outcomes that are answered alike are the same
listed-injective : (r s : Result ℕ Refused) → listed r ≡ listed s → r ≡ s
listed-injective (Ok m) (Ok n) h = ap (λ (a : ListAnswer). Ok a.count) h
listed-injective (Ok m) (Err e) h = absurd (never_done e.refusal (ap (λ (a : ListAnswer). a.number) h))
listed-injective (Err d) (Ok n) h = absurd (never_done d.refusal (sym (ap (λ (a : ListAnswer). a.number) h)))
listed-injective (Err d) (Err e) h =
    ap₂ (λ (x : Refusal) (p : ℕ). Err record { refusal = x; place = p })
    (refusal-injective d.refusal e.refusal (ap (λ (a : ListAnswer). a.number) h) (ap (λ (a : ListAnswer). record { bank = a.bank; page = a.page }) h))
    (ap (λ (a : ListAnswer). a.place) h)

pub list_answer_from_one : OneResult answer.Post
list_answer_from_one κ a r r' s s' p p' = p ∙ sym p'

pub patch_all_one : OneOutcome patch_all.Post (λ κ s. s.1.1.0.now)
patch_all_one κ a r r' s s' p p' = (listed-injective r r' (p.0 ∙ sym p'.0), p.1 ∙ sym p'.1)
