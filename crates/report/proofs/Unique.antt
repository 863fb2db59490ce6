-- Each public function's promise admits one outcome.
use Rattle.std.proofs.Common.{◌≡◌, ℕ, not, ltb, [], ◌∷◌, ◌++◌, refl, sym, ap, ◌∙◌, arith}
use Rattle.std.specs.Prelude.{Result, Ok, Err}
use Rattle.words.proofs.Outcome.{OneResult}
use Rattle.spans.proofs.RefusalLaws.{never_given}
use Rattle.spans.specs.Refusals.{◌when◌}
use Rattle.twofish.specs.declared.Refusal.{Refusal}
use Rattle.twofish.specs.declared.Refusal.TheVariants.{KeyLength, Start, BlockLength, Geometry, ImageLength, Place, Length, Record, Outside, TooMany, Elsewhere}
use Rattle.twofish.specs.declared.Twofish.{Twofish}
use Rattle.twofish.specs.Answers.{nowhere, refusal_number, refusal_location}
use Rattle.twofish.proofs.AnswerLaws.{never_done, refusal-injective}
use Rattle.sealed.specs.declared.Geometry as geometry
use Rattle.report.specs.declared.Changes.{Changes}
use Rattle.report.specs.declared.ChangesAnswer.{ChangesAnswer}
use Rattle.report.specs.declared.Totals.{Totals}
use Rattle.report.specs.declared.TotalsAnswer.{TotalsAnswer}
use Rattle.report.specs.Report.{report_refusals, report_number, bank_number, changes_answer, changes_told, totals_answer, totals_told}
use Rattle.report.proofs.ChangesAnswerFromResultChangesRefusal.from.Reads as changes
use Rattle.report.proofs.TotalsAnswerFromResultTotalsRefusal.from.Reads as totals
use Rattle.report.proofs.compare_bank.Reads as compare_bank
use Rattle.report.proofs.compare_image.Reads as compare_image

-- a refusal whose number is not 11 says no place
no_place : (e : Refusal) → (refusal_number e ≡ 11 → ⊥) → refusal_location e ≡ nowhere
no_place KeyLength n = refl
no_place Start n = refl
no_place BlockLength n = refl
no_place Geometry n = refl
no_place ImageLength n = refl
no_place Place n = refl
no_place Length n = refl
no_place Record n = refl
no_place Outside n = refl
no_place TooMany n = refl
no_place (Elsewhere l) n = absurd (n refl)

-- so no two that have one number are apart
same_refusal : (d e : Refusal) → refusal_number d ≡ refusal_number e → (refusal_number e ≡ 11 → ⊥) → d ≡ e
same_refusal d e h n = refusal-injective d e h (no_place d (λ z. n (sym h ∙ z)) ∙ sym (no_place e n))

-- outcomes that are answered alike, and not by 11, are the same
changes-injective : (r s : Result Changes Refusal) → changes_told r ≡ changes_told s → ((changes_told s).number ≡ 11 → ⊥) → r ≡ s
changes-injective (Ok m) (Ok n) h k = ap (λ (a : ChangesAnswer). Ok record { masks = a.masks; changed = a.changed }) h
changes-injective (Ok m) (Err e) h k = absurd (never_done e (ap (λ (a : ChangesAnswer). a.number) h))
changes-injective (Err d) (Ok n) h k = absurd (never_done d (sym (ap (λ (a : ChangesAnswer). a.number) h)))
changes-injective (Err d) (Err e) h k = ap (λ (x : Refusal). Err x) (same_refusal d e (ap (λ (a : ChangesAnswer). a.number) h) k)

totals-injective : (r s : Result Totals Refusal) → totals_told r ≡ totals_told s → ((totals_told s).number ≡ 11 → ⊥) → r ≡ s
totals-injective (Ok m) (Ok n) h k = ap (λ (a : TotalsAnswer). Ok record { same = a.same; changed = a.changed; unreadable = a.unreadable }) h
totals-injective (Ok m) (Err e) h k = absurd (never_done e (ap (λ (a : TotalsAnswer). a.number) h))
totals-injective (Err d) (Ok n) h k = absurd (never_done d (sym (ap (λ (a : TotalsAnswer). a.number) h)))
totals-injective (Err d) (Err e) h k = ap (λ (x : Refusal). Err x) (same_refusal d e (ap (λ (a : TotalsAnswer). a.number) h) k)

-- no report is refused by 11
never_11 : (t : Twofish) (G : geometry.Geometry) (old new : ℕ) → report_number t G old new ≡ 11 → ⊥
unfolding report_number report_refusals
never_11 t G old new = never_given 11 (report_refusals t G old new) (λ z. absurd (omega (arith, z))) tt

never_11_bank : (t : Twofish) (G : geometry.Geometry) (old new bank : ℕ) → bank_number t G old new bank ≡ 11 → ⊥
unfolding bank_number report_refusals
never_11_bank t G old new bank = never_given 11 (report_refusals t G old new ++ 6 when not (ltb bank G.banks) ∷ []) (λ z. absurd (omega (arith, z))) tt

pub changes_answer_from_one : OneResult changes.Post
changes_answer_from_one κ a r r' s s' p p' = p ∙ sym p'

pub totals_answer_from_one : OneResult totals.Post
totals_answer_from_one κ a r r' s s' p p' = p ∙ sym p'

pub compare_bank_one : OneResult compare_bank.Post
unfolding changes_answer
compare_bank_one κ a r r' s s' p p' = changes-injective r r' (p ∙ sym p') (λ z. never_11_bank _ _ _ _ _ (sym (ap (λ (x : ChangesAnswer). x.number) p') ∙ z))

pub compare_image_one : OneResult compare_image.Post
unfolding totals_answer
compare_image_one κ a r r' s s' p p' = totals-injective r r' (p ∙ sym p') (λ z. never_11 _ _ _ _ (sym (ap (λ (x : TotalsAnswer). x.number) p') ∙ z))
