-- `host::hf_compare_image` meets its contract: the totals under the key, or a refusal.
use Rattle.std.proofs.Common.{ℕ, length, ap, ◌∙◌}
use Rattle.twofish.specs.declared.Twofish.{Twofish}
use Rattle.report.specs.declared.TotalsAnswer.{TotalsAnswer}
use Rattle.report.specs.Slots.{is_same, is_changed, is_unreadable, slots_that}
use Rattle.report.specs.Report.{report_number, totals_answer}
use Rattle.host.specs.Host.{schedule_of, geometry}
use Rattle.host.proofs.KeyLaws.{told_under, told_refused, refused_by_one}
use Rattle.host.proofs.hf_compare_image.Goals as goal

pub returns-in-Ok : goal.returns-in-Ok
returns-in-Ok c =
    let a = c.args in
    let G = geometry a.pages a.banks in
    let number : Twofish → ℕ = λ t. report_number t G (length a.old.now) (length a.new.now) in
    let tell : Twofish → ℕ → TotalsAnswer =
    λ t n.
    totals_answer n (slots_that G (is_same t G a.old.now a.new.now)) (slots_that G (is_changed t G a.old.now a.new.now))
    (slots_that G (is_unreadable t G a.old.now a.new.now)) in
    c.into.ensures ∙ c.compare_image.ensures ∙ told_under a.key.now number c.in-Ok.t c.in-Ok.ensures tell

pub returns-in-Err : goal.returns-in-Err
unfolding totals_answer
returns-in-Err c =
    let a = c.args in
    let G = geometry a.pages a.banks in
    let t = schedule_of a.key.now in
    let number : Twofish → ℕ = λ t. report_number t G (length a.old.now) (length a.new.now) in
    c.from.ensures
    ∙ ap (λ (n : ℕ). record { number = n; same = 0; changed = 0; unreadable = 0 }) (refused_by_one a.key.now c.in-Err.refusal c.in-Err.ensures)
    ∙ told_refused a.key.now number c.in-Err.refusal c.in-Err.ensures
    (λ n.
    totals_answer n (slots_that G (is_same t G a.old.now a.new.now)) (slots_that G (is_changed t G a.old.now a.new.now))
    (slots_that G (is_unreadable t G a.old.now a.new.now)))
