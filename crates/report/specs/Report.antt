-- The refusals of a report in their order, and what it answers.
use Rattle.std.specs.Prelude.{not, ◌&&◌, Result, Ok, Err, List, [], ◌∷◌, ◌++◌, ℕ, eqb, ltb, cond, replicate}
use Rattle.spans.specs.Refusals.{Line, ◌when◌, given}
use Rattle.twofish.specs.declared.Refusal.{Refusal}
use Rattle.twofish.specs.declared.Twofish.{Twofish}
use Rattle.twofish.specs.Answers.{refusal_number}
use Rattle.sealed.specs.declared.Geometry.{Geometry}
use Rattle.sealed.specs.Image.{in_range, image_length}
use Rattle.report.specs.declared.Changes.{Changes}
use Rattle.report.specs.declared.ChangesAnswer.{ChangesAnswer}
use Rattle.report.specs.declared.Totals.{Totals}
use Rattle.report.specs.declared.TotalsAnswer.{TotalsAnswer}

-- the refusals of a report on two images, in order: 2, 4, and 5 for either length
unfoldable pub report_refusals : Twofish → Geometry → ℕ → ℕ → List Line
report_refusals t G old new =
    2 when ltb 2 t.start ∷ 4 when not (in_range G) ∷ 5 when not (eqb old (image_length G) && eqb new (image_length G)) ∷ []

unfoldable pub report_number : Twofish → Geometry → ℕ → ℕ → ℕ
report_number t G old new = given (report_refusals t G old new)

-- and after them 6, for a report on a bank that is not there
unfoldable pub bank_number : Twofish → Geometry → ℕ → ℕ → ℕ → ℕ
bank_number t G old new bank = given (report_refusals t G old new ++ 6 when not (ltb bank G.banks) ∷ [])

-- the answer to a report on a bank: a refused one is all zeros beside its number
unfoldable pub changes_answer : ℕ → List ℕ → ℕ → ChangesAnswer
changes_answer n masks changed = record { number = n; changed = cond (eqb n 0) changed 0; masks = cond (eqb n 0) masks (replicate 4 0) }

-- what an outcome answers
abbrev pub changes_told : Result Changes Refusal → ChangesAnswer
changes_told (Ok c) = record { number = 0; changed = c.changed; masks = c.masks }
changes_told (Err e) = record { number = refusal_number e; changed = 0; masks = replicate 4 0 }

-- the answer to the totals of an image
unfoldable pub totals_answer : ℕ → ℕ → ℕ → ℕ → TotalsAnswer
totals_answer n same changed unreadable =
    record { number = n; same = cond (eqb n 0) same 0; changed = cond (eqb n 0) changed 0; unreadable = cond (eqb n 0) unreadable 0 }

-- what an outcome answers
abbrev pub totals_told : Result Totals Refusal → TotalsAnswer
totals_told (Ok s) = record { number = 0; same = s.same; changed = s.changed; unreadable = s.unreadable }
totals_told (Err e) = record { number = refusal_number e; same = 0; changed = 0; unreadable = 0 }
