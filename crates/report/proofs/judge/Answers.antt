-- `report::judge` meets its contract: the refusals of the old image, and then those of the new.
use Rattle.std.proofs.Common.{ℕ, cond, eqb, length, sym, ap, ◌∙◌}
use Rattle.std.proofs.lemmas.Result.{err_from_is_err_and}
use borrow.Author.Tests.{ne_eqb}
use Rattle.twofish.specs.Answers.{answer}
use Rattle.twofish.proofs.AnswerLaws.{never_done}
use Rattle.sealed.specs.Image.{image_number}
use Rattle.sealed.proofs.OutcomeLaws.{refused_number, done_count}
use Rattle.report.proofs.RefusalsInOrder.{report_number-judged}
use Rattle.report.proofs.judge.Goals as goal

pub returns-in_err-judge : goal.returns-in_err-judge
returns-in_err-judge c =
    let a = c.args in
    let p = err_from_is_err_and c.from_residual.result c.from_residual.ensures.1 in
    let e = c.in_err-judge.field-0.0 in
    let number = refused_number e _ _ _ c.in_err-judge.ensures in
    rw (p.1, p.2)
    (c.in_err-judge.ensures
    ∙ ap (λ (n : ℕ). answer n 0)
    (sym (report_number-judged a.t a.geometry (length a.old.now) (length a.new.now)
    ∙ ap (λ b. cond b (image_number a.t a.geometry (length a.new.now)) (image_number a.t a.geometry (length a.old.now)))
    (ne_eqb _ 0 (λ z. never_done e (sym (number ∙ z)))))))

pub returns : goal.returns
returns c =
    let a = c.args in
    let old = (done_count _ _ _ _ c.in_ok-judge.ensures).0 in
    c.judge-2.ensures
    ∙ ap (λ (n : ℕ). answer n 0)
    (sym (report_number-judged a.t a.geometry (length a.old.now) (length a.new.now)
    ∙ ap (λ (n : ℕ). cond (eqb n 0) (image_number a.t a.geometry (length a.new.now)) n) (sym old)))
