-- `boxful::patch_all` meets its contract: a list that is refused leaves the image, and else a turn makes a patch.
use Rattle.std.proofs.Common.{◌≡◌, ℕ, ◌+◌, ◌<◌, List, length, drop, get_or, refl, sym, ap, ◌∙◌, arith}
use Rattle.std.proofs.lemmas.Result.{err_from_is_err_and}
use Rattle.std.proofs.lemmas.List.{drop_all}
use Rattle.spans.specs.Refusals.{leaves}
use Rattle.sealed.specs.Image.{patch_count}
use Rattle.sealed.proofs.OutcomeLaws.{refused_leaves}
use Rattle.boxful.specs.declared.Patch.{Patch}
use Rattle.boxful.specs.Boxful.{Judged, all_patched, all_counted, list_answer}
use Rattle.boxful.proofs.ListLaws.{none, judged_taken, few_taken, refused_listed}
use Rattle.boxful.proofs.PatchedLaws.{one_more, count_more}
use Rattle.boxful.proofs.patch_all.Goals as goal

pub returns-in_err-judge-clause-outcome : goal.returns-in_err-judge-clause-outcome
returns-in_err-judge-clause-outcome c =
    let p = err_from_is_err_and c.from_residual.result c.from_residual.ensures.1 in
    rw (p.1, p.2) (refused_listed c.in_err-judge.field-0.0 _ _ c.in_err-judge.ensures)

pub returns-in_err-judge-clause-image : goal.returns-in_err-judge-clause-image
returns-in_err-judge-clause-image c =
    let a = c.args in
    let e = c.in_err-judge.field-0.0 in
    refused_leaves e.refusal (sym (ap (λ (j : Judged). j.number) c.in_err-judge.ensures))
    (all_patched a.t a.geometry a.bytes.now a.patches.now a.image.now) a.image.now

pub loop-i-init : goal.loop-i-init
loop-i-init c =
    let k = judged_taken _ _ _ _ _ (ap (λ (j : Judged). j.number) c.in_ok-judge.ensures) in
    (k.1, refl, omega arith, omega arith, few_taken _ _ _ _ k.0)

pub make-count-requires : goal.make-count-requires
make-count-requires c = c.loop-i.invariant.0 c.loop-i.i (omega (arith, c.loop-i-test.true))

pub overflow_add-count : goal.overflow_add-count
unfolding patch_count
overflow_add-count c = omega (arith, c.make-count.ensures.count, c.loop-i.invariant.3, c.loop-i.invariant.4, c.loop-i-test.true)

pub loop-i-preserved : goal.loop-i-preserved
unfolding patch_count
loop-i-preserved c =
    let a = c.args in
    let l = c.loop-i in
    let ps : List Patch = a.patches.now in
    let p : Patch = get_or ps l.i none in
    let h : l.i < length ps = omega (arith, c.loop-i-test.true) in
    let e = c.make-count.ensures in
    let count = count_more ps l.i h in (
      λ j k. e.said (get_or ps j none) ∙ l.invariant.0 j k,
      ap (all_patched a.t a.geometry a.bytes.now (drop (l.i + 1) ps)) e.image ∙ sym (one_more ps l.i h a.t a.geometry a.bytes.now l.image) ∙ l.invariant.1,
      omega (arith, e.count, count, l.invariant.2),
      omega (arith, e.count, l.invariant.3),
      l.invariant.4,
    )

pub returns-clause-outcome : goal.returns-clause-outcome
unfolding list_answer all_counted
returns-clause-outcome c =
    let l = c.loop-i in
    let none_more = ap all_counted (drop_all l.i c.args.patches.now (omega arith)) in
    let all : l.count ≡ all_counted c.args.patches.now = omega (arith, none_more, l.invariant.2) in
    ap (λ (n : ℕ). record { number = 0; count = n; place = 0; bank = 0; page = 0 }) all
    ∙ ap (λ (j : Judged). list_answer j (all_counted c.args.patches.now)) (sym c.in_ok-judge.ensures)

pub returns-clause-image : goal.returns-clause-image
unfolding leaves all_patched
returns-clause-image c =
    let a = c.args in
    let l = c.loop-i in
    sym (ap (λ (ps : List Patch). all_patched a.t a.geometry a.bytes.now ps l.image) (drop_all l.i a.patches.now (omega arith)))
    ∙ l.invariant.1
    ∙ ap (λ (j : Judged). leaves j.number (all_patched a.t a.geometry a.bytes.now a.patches.now a.image.now) a.image.now) (sym c.in_ok-judge.ensures)
