-- `boxful::judge_patch` meets its contract: its bytes lie among those that are lent, and then the patch by itself.
use Rattle.std.proofs.lemmas.Result.{err_from_is_err_and}
use borrow.Author.Tests.{lt-ltb, le-ltb}
use Rattle.std.proofs.Common.{ℕ, ap}
use Rattle.twofish.specs.Answers.{answer_at}
use Rattle.sealed.specs.Image.{seen_at, other_place, access_answer}
use Rattle.sealed.proofs.OutcomeLaws.{recounted, done_count}
use Rattle.boxful.specs.Boxful.{outside, item_number}
use Rattle.boxful.proofs.judge_patch.Goals as goal

pub returns-then-patch-length : goal.returns-then-patch-length
unfolding item_number outside answer_at
returns-then-patch-length c = simp (lt-ltb _ _ c.if-patch-length.true)

pub returns-in_err-find : goal.returns-in_err-find
unfolding item_number outside access_answer
returns-in_err-find c =
    let p = err_from_is_err_and c.from_residual.result c.from_residual.ensures.1 in
    rw (p.1, p.2, le-ltb _ _ c.if-patch-length.false) (recounted c.in_err-find.field-0.0 _ _ _ c.in_err-find.ensures 0)

pub returns : goal.returns
unfolding item_number outside answer_at access_answer
returns c =
    let l = other_place (seen_at c.args.t c.args.geometry c.args.image.now c.args.patch.bank c.args.patch.offset) in
    rw (le-ltb _ _ c.if-patch-length.false) (ap (λ (n : ℕ). answer_at l n 0) (done_count _ _ _ _ c.in_ok-find.ensures).0)
