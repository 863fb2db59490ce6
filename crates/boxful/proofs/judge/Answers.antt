-- `boxful::judge` meets its contract: the list as a whole, and then each patch in order.
use Rattle.std.proofs.Common.{◌≡◌, ℕ, Bool, true, false, cond, eqb, refl, sym, ◌∙◌, ap, ap₂, arith}
use Rattle.twofish.specs.declared.Location.{Location}
use Rattle.twofish.specs.Answers.{nowhere, answer_at, refusal_number}
use Rattle.twofish.proofs.AnswerLaws.{never_done}
use Rattle.sealed.proofs.OutcomeLaws.{refused_number, refused_place, done_count}
use Rattle.boxful.specs.Boxful.{item_number, item_held}
use Rattle.boxful.proofs.ListLaws.{none_left, one_taken, one_refused, whole_refused, too_many, few_enough, judged_whole, judged_each}
use Rattle.boxful.proofs.judge.Goals as goal

-- a refusal of the image says no place
pub returns-in-Err : goal.returns-in-Err
unfolding answer_at
returns-in-Err c =
    let e = c.in-Err.refusal in
    let whole = whole_refused _ _ _ _ _ (λ z. never_done e (sym z)) (refused_number e _ _ _ c.in-Err.ensures) in
    judged_whole _ _ _ _ _ _ (λ z. never_done e (sym z)) whole
    ∙ ap (λ (l : Location). record { number = refusal_number e; place = 0; held = l }) (sym (refused_place e nowhere _ _ c.in-Err.ensures ∙ same (eqb _ 11)))
  where
    same : (b : Bool) → cond b nowhere nowhere ≡ nowhere
    same true = refl
    same false = refl

pub returns-then-patches-gt-MOST : goal.returns-then-patches-gt-MOST
returns-then-patches-gt-MOST c =
    judged_whole _ _ _ _ _ 10 (λ z. omega (arith, z)) (too_many _ _ _ _ (done_count _ _ _ _ c.in_default.ensures).0 c.if-patches-gt-MOST.true)

pub loop-i-init : goal.loop-i-init
loop-i-init c = refl

pub returns-in-Err-judge_patch : goal.returns-in-Err-judge_patch
unfolding item_held
returns-in-Err-judge_patch c =
    let a = c.args in
    let e = c.in-Err-judge_patch.refusal in
    let number = refused_number e _ _ _ c.in-Err-judge_patch.ensures in
    let held = refused_place e _ _ _ c.in-Err-judge_patch.ensures in
    judged_each _ _ _ _ _ (few_enough _ _ _ _ (done_count _ _ _ _ c.in_default.ensures).0 c.if-patches-gt-MOST.false)
    ∙ c.loop-i.invariant
    ∙ one_refused (item_number a.t a.geometry a.image.now a.bytes.now) (item_held a.t a.geometry a.image.now a.bytes.now) a.patches.now c.loop-i.i
    (omega (arith, c.loop-i-test.true)) (λ z. never_done e (sym (number ∙ z)))
    ∙ ap₂ (λ (n : ℕ) (l : Location). record { number = n; place = c.loop-i.i; held = l }) (sym number) (sym held)

pub loop-i-preserved : goal.loop-i-preserved
loop-i-preserved c =
    let a = c.args in
    c.loop-i.invariant
    ∙ one_taken (item_number a.t a.geometry a.image.now a.bytes.now) (item_held a.t a.geometry a.image.now a.bytes.now) a.patches.now c.loop-i.i (omega (arith, c.loop-i-test.true)) (sym (done_count _ _ _ _ c.in_default-judge_patch.ensures).0)

pub returns : goal.returns
returns c =
    let a = c.args in
    judged_each _ _ _ _ _ (few_enough _ _ _ _ (done_count _ _ _ _ c.in_default.ensures).0 c.if-patches-gt-MOST.false)
    ∙ c.loop-i.invariant
    ∙ none_left (item_number a.t a.geometry a.image.now a.bytes.now) (item_held a.t a.geometry a.image.now a.bytes.now) c.loop-i.i a.patches.now (omega arith)
