-- `sealed::judged` meets its contract: the image's refusals, and then those of the place and the length.
use Rattle.std.proofs.Common.{◌≡◌, ℕ, Bool, not, [], ◌∷◌, sym, ap, ◌∙◌}
use Rattle.std.proofs.lemmas.Result.{err_from_is_err_and}
use Rattle.spans.specs.Refusals.{◌when◌, given}
use Rattle.twofish.specs.declared.Twofish.{Twofish}
use Rattle.twofish.specs.Answers.{nowhere, told, answer_at, answer}
use Rattle.twofish.proofs.AnswerLaws.{never_done}
use Rattle.sealed.specs.declared.Geometry.{Geometry}
use Rattle.sealed.specs.Image.{image_number, refusals}
use Rattle.sealed.proofs.ImageLaws.{image_refused, image_taken}
use Rattle.sealed.proofs.OutcomeLaws.{refused_number, done_count}
use Rattle.sealed.proofs.judged.Goals as goal

pub returns-in_err-judge : goal.returns-in_err-judge
unfolding refusals
returns-in_err-judge c =
    let p = err_from_is_err_and c.from_residual.result c.from_residual.ensures.1 in
    let e = c.in_err-judge.field-0.0 in
    let number = refused_number e _ _ _ c.in_err-judge.ensures in
    rw (p.1, p.2)
    (c.in_err-judge.ensures ∙ ap (λ (n : ℕ). answer n 0) (sym number ∙ image_refused _ _ _ _ _ (λ z. never_done e (sym z)) number))

-- where the image is taken, the tests of the place and the length decide
decided : (t : Twofish) (G : Geometry) (long : ℕ) (placed fits : Bool) → told 0 0 nowhere ≡ answer (image_number t G long) 0
    → given (6 when not placed ∷ 7 when not fits ∷ []) ≡ given (refusals t G long placed fits)
unfolding refusals
decided t G long placed fits h = sym (image_taken t G long _ (done_count _ _ _ _ h).0)

pub returns-then-not-placed : goal.returns-then-not-placed
unfolding given answer_at
returns-then-not-placed c = ap (λ (n : ℕ). answer n 0) (sym (simp (c.if-not-placed.true)) ∙ decided _ _ _ _ _ c.in_ok-judge.ensures)

pub returns-then-not-fits : goal.returns-then-not-fits
unfolding given answer_at
returns-then-not-fits c =
    ap (λ (n : ℕ). answer n 0) (sym (simp (c.if-not-placed.false, c.if-not-fits.true)) ∙ decided _ _ _ _ _ c.in_ok-judge.ensures)

pub returns : goal.returns
unfolding given answer_at
returns c = ap (λ (n : ℕ). answer n 0) (sym (simp (c.if-not-placed.false, c.if-not-fits.false)) ∙ decided _ _ _ _ _ c.in_ok-judge.ensures)
