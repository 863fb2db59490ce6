-- `sealed::patch` meets its contract: the first refusal in order, or the page sealed afresh with the bytes laid over it.
use Rattle.std.proofs.Common.{◌≡◌, ℕ, ◌+◌, ◌-◌, ◌/◌, ◌%◌, List, length, replicate, sym, ap, ap₂, ◌∙◌, arith, rules}
use Rattle.std.proofs.lemmas.Result.{err_from_is_err_and}
use Rattle.spans.specs.Parts.{splice}
use Rattle.spans.specs.Refusals.{leaves}
use Rattle.spans.proofs.PartsLaws.{mid_splice, splice-length}
use Rattle.block.specs.Block.{enciphered, deciphered}
use Rattle.block.proofs.ThereAndBack.{enciphered-length}
use Rattle.sealed.specs.Cbc.{cbc, uncbc}
use Rattle.sealed.specs.Record.{sealed, page_of}
use Rattle.sealed.specs.Image.{record_at, sealed_in, access_answer, patched_in, patch_count}
use Rattle.sealed.proofs.OpenLaws.{page_of-length}
use Rattle.sealed.proofs.RecordLaws.{sealed-length}
use Rattle.sealed.proofs.PatchLaws.{patched}
use Rattle.sealed.proofs.AccessLaws.{found}
use Rattle.sealed.proofs.OutcomeLaws.{refused_number, recounted, refused_leaves}
use Rattle.sealed.proofs.patch.Goals as goal

pub returns-in_err-at-clause-outcome : goal.returns-in_err-at-clause-outcome
unfolding access_answer
returns-in_err-at-clause-outcome c =
    let p = err_from_is_err_and c.from_residual.result c.from_residual.ensures.1 in
    let e = c.in_err-at.field-0.0 in
    rw (p.1, p.2) (recounted e _ _ _ c.in_err-at.ensures (patch_count c.args.offset))

pub returns-in_err-at-clause-image : goal.returns-in_err-at-clause-image
unfolding access_answer
returns-in_err-at-clause-image c = let e = c.in_err-at.field-0.0 in refused_leaves e (refused_number e _ _ _ c.in_err-at.ensures) _ _

pub overflow_add-blocks : goal.overflow_add-blocks
overflow_add-blocks c = let k = found c.in_ok-at.ensures in omega (arith, k.call.room, k.call.small, k.place)

pub slice_bounds-blocks-end : goal.slice_bounds-blocks-end
slice_bounds-blocks-end c = let k = found c.in_ok-at.ensures in omega (arith, k.call.room, k.place)

pub invariant_of-cipher : goal.invariant_of-cipher
invariant_of-cipher c = record { start = (found c.in_ok-at.ensures).call.start }

pub patch_record-requires : goal.patch_record-requires
patch_record-requires c = let k = found c.in_ok-at.ensures in (record { keys = λ i. search rules }, k.long, k.call.some, k.call.inside)

pub returns-clause-outcome : goal.returns-clause-outcome
unfolding patch_count
returns-clause-outcome c = (found c.in_ok-at.ensures).answered (16 - c.args.offset % 256 / 16)

pub returns-clause-image : goal.returns-clause-image
unfolding leaves patched_in sealed_in
returns-clause-image c =
    let a = c.args in
    let t = a.t in
    let q = a.offset % 256 in
    let at : ℕ = c.in_ok-at.at in
    let k = found c.in_ok-at.ensures in
    let r : List ℕ = record_at a.geometry a.bank (a.offset / 256) a.image.now in
    let long : length r ≡ 272 = ap length (sym k.part) ∙ k.long in
    let fresh : List ℕ = splice q a.bytes.now (page_of (deciphered t) r) in
    let whole : length fresh ≡ 256 =
    let page = page_of-length t r long in splice-length q a.bytes.now (page_of (deciphered t) r) (omega (arith, k.call.inside, page)) ∙ page in
    let made : c.patch_record.new.blocks ≡ sealed (enciphered t) a.bank (a.offset / 256) fresh =
    c.patch_record.ensures
    ∙ ap (λ (l : List ℕ). cbc (enciphered t) (replicate 16 0) 17 (splice (16 + q) a.bytes.now (uncbc (deciphered t) (replicate 16 0) 17 l))) k.part
    ∙ patched t a.bank (a.offset / 256) q a.bytes.now r long k.call.inside k.its_own in
    rw (sym k.done)
    (mid_splice at _ _ a.image.now
    (ap length made ∙ sealed-length (enciphered t) a.bank (a.offset / 256) fresh (enciphered-length t) (omega (arith, whole)) ∙ omega arith)
    ∙ ap₂ (λ (n : ℕ) (l : List ℕ). splice n l a.image.now) k.place made)
