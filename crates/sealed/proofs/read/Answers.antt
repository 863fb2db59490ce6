-- `sealed::read` meets its contract: the first refusal in order, or the bytes asked for.
use Rattle.std.proofs.Common.{ℕ, ◌%◌, List, length, take, drop, ap, ◌∙◌, arith}
use Rattle.std.proofs.lemmas.Result.{err_from_is_err_and}
use Rattle.spans.specs.Refusals.{leaves}
use Rattle.block.specs.Block.{deciphered}
use Rattle.sealed.specs.Record.{page_of}
use Rattle.sealed.specs.Image.{read_from, access_answer}
use Rattle.sealed.proofs.AccessLaws.{found}
use Rattle.sealed.proofs.OutcomeLaws.{refused_number, recounted, refused_leaves}
use Rattle.sealed.proofs.read.Goals as goal

pub returns-in_err-at-clause-outcome : goal.returns-in_err-at-clause-outcome
unfolding access_answer
returns-in_err-at-clause-outcome c =
    let p = err_from_is_err_and c.from_residual.result c.from_residual.ensures.1 in
    let e = c.in_err-at.field-0.0 in
    rw (p.1, p.2) (recounted e _ _ _ c.in_err-at.ensures 0)

pub returns-in_err-at-clause-out : goal.returns-in_err-at-clause-out
unfolding access_answer
returns-in_err-at-clause-out c = let e = c.in_err-at.field-0.0 in refused_leaves e (refused_number e _ _ _ c.in_err-at.ensures) _ _

pub invariant_of-cipher : goal.invariant_of-cipher
invariant_of-cipher c = record { start = (found c.in_ok-at.ensures).call.start }

pub overflow_add-blocks : goal.overflow_add-blocks
overflow_add-blocks c = let k = found c.in_ok-at.ensures in omega (arith, k.call.room, k.call.small, k.place)

pub slice_bounds-blocks-end : goal.slice_bounds-blocks-end
slice_bounds-blocks-end c = let k = found c.in_ok-at.ensures in omega (arith, k.call.room, k.place)

pub open-requires : goal.open-requires
open-requires c = let k = found c.in_ok-at.ensures in (k.long, k.call.some, k.call.inside)

pub returns-clause-outcome : goal.returns-clause-outcome
returns-clause-outcome c = (found c.in_ok-at.ensures).answered 0

pub returns-clause-out : goal.returns-clause-out
unfolding leaves read_from
returns-clause-out c =
    let a = c.args in
    let k = found c.in_ok-at.ensures in
    c.open.ensures
    ∙ ap (λ (l : List ℕ). take (length a.out.now) (drop (a.offset % 256) (page_of (deciphered a.t) l))) k.part
    ∙ ap (λ (n : ℕ). leaves n (read_from (deciphered a.t) a.geometry a.bank a.offset (length a.out.now) a.image.now) a.out.now) k.done
