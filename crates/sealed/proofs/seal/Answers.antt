-- `sealed::seal` meets its contract: the first refusal in order, or the record of the page in its slot.
use Rattle.std.proofs.Common.{◌≡◌, ℕ, ◌+◌, ◌-◌, List, length, refl, sym, ap, ap₂, ◌∙◌, arith}
use Rattle.std.proofs.lemmas.Result.{err_from_is_err_and}
use Rattle.spans.specs.Parts.{splice}
use Rattle.spans.specs.Refusals.{leaves}
use Rattle.spans.proofs.PartsLaws.{mid_splice}
use Rattle.twofish.specs.Answers.{answer_at, answer}
use Rattle.block.proofs.ThereAndBack.{enciphered-length}
use Rattle.sealed.specs.Image.{sealed_in}
use Rattle.sealed.proofs.ImageLaws.{Takes, bank_byte, page_byte, seals, seal_takes, slice-length}
use Rattle.sealed.proofs.RecordLaws.{sealed-length}
use Rattle.sealed.proofs.OutcomeLaws.{refused_number, recounted, done_count, refused_leaves}
use Rattle.sealed.proofs.seal.Goals as goal
use Rattle.sealed.proofs.seal.Goals.{In_ok-judged}

pub returns-in_err-judged-clause-outcome : goal.returns-in_err-judged-clause-outcome
returns-in_err-judged-clause-outcome c =
    let p = err_from_is_err_and c.from_residual.result c.from_residual.ensures.1 in
    let e = c.in_err-judged.field-0.0 in
    rw (p.1, p.2)
    (recounted e _ _ _ c.in_err-judged.ensures 17
    ∙ ap (λ (n : ℕ). answer n 17) (seals _ _ _ _ _ _ c.reached-placed.ensures c.up_to_256.ensures refl))

pub returns-in_err-judged-clause-image : goal.returns-in_err-judged-clause-image
returns-in_err-judged-clause-image c =
    let e = c.in_err-judged.field-0.0 in
    refused_leaves e (seals _ _ _ _ _ _ c.reached-placed.ensures c.up_to_256.ensures (refused_number e _ _ _ c.in_err-judged.ensures)) _ _

-- what holds where the call is taken
taken : (c : In_ok-judged) → Takes c.args.t c.args.geometry (length c.args.image.now) c.args.bank c.args.page (length c.args.plain.now)
taken c = seal_takes c.reached-placed.ensures c.up_to_256.ensures (done_count _ _ _ _ c.in_ok-judged.ensures).0

pub record_start-at-requires : goal.record_start-at-requires
record_start-at-requires c = let k = taken (goal.at.record_start-at-requires c).In_ok-judged in (k.there.geometry, k.reaches)

pub overflow_cast-bank : goal.overflow_cast-bank
overflow_cast-bank c = let k = taken (goal.at.overflow_cast-bank c).In_ok-judged in omega (arith, bank_byte k.there)

pub overflow_cast-page : goal.overflow_cast-page
overflow_cast-page c = let k = taken (goal.at.overflow_cast-page c).In_ok-judged in omega (arith, page_byte k.there)

pub overflow_add-blocks : goal.overflow_add-blocks
overflow_add-blocks c = let k = taken (goal.at.overflow_add-blocks c).In_ok-judged in omega (arith, k.room, k.small, c.record_start-at.ensures)

pub slice_bounds-blocks-end : goal.slice_bounds-blocks-end
slice_bounds-blocks-end c =
    let k = taken (goal.at.slice_bounds-blocks-end c).In_ok-judged in omega (arith, k.room, c.record_start-at.ensures)

pub seal_record-requires : goal.seal_record-requires
seal_record-requires c =
    let a = c.args in
    let k = taken (goal.at.seal_record-requires c).In_ok-judged in
    (slice-length a.geometry a.bank a.page c.record_start-at.result a.image.now c.record_start-at.ensures k.room, k.fits)

pub returns-clause-outcome : goal.returns-clause-outcome
unfolding answer_at
returns-clause-outcome c =
    ap (λ (n : ℕ). answer n 17) (seals _ _ _ _ _ _ c.reached-placed.ensures c.up_to_256.ensures (done_count _ _ _ _ c.in_ok-judged.ensures).0)

pub returns-clause-image : goal.returns-clause-image
unfolding leaves sealed_in
returns-clause-image c =
    let a = c.args in
    let at : ℕ = c.record_start-at.result in
    let wide : 272 ≡ at + 272 - at = omega arith in
    rw (sym (seals _ _ _ _ _ _ c.reached-placed.ensures c.up_to_256.ensures (done_count _ _ _ _ c.in_ok-judged.ensures).0))
    (mid_splice at _ _ a.image.now (ap length c.seal_record.ensures ∙ sealed-length _ _ _ _ (enciphered-length a.t) (taken (goal.at.returns-clause-image c).In_ok-judged).fits ∙ wide)
    ∙ ap₂ (λ (n : ℕ) (r : List ℕ). splice n r a.image.now) c.record_start-at.ensures c.seal_record.ensures)

pub invariant_of-cipher : goal.invariant_of-cipher
invariant_of-cipher c = record { start = (taken (goal.at.invariant_of-cipher c).In_ok-judged).start }
