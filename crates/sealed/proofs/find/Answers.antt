-- `sealed::find` meets its contract: the first refusal in order, or where the record begins.
use Rattle.std.proofs.Common.{◌≡◌, ℕ, ◌+◌, ◌-◌, ◌*◌, ◌/◌, length, take, drop, ap, ◌∙◌, arith}
use Rattle.std.proofs.lemmas.Result.{err_from_is_err_and}
use Rattle.spans.specs.Refusals.{given}
use Rattle.twofish.specs.Answers.{answer_at}
use Rattle.block.specs.Block.{deciphered}
use Rattle.sealed.specs.declared.Seen.{Seen}
use Rattle.sealed.specs.declared.Seen.TheVariants.{Own, Other, NoPlace}
use Rattle.sealed.specs.Record.{whose}
use Rattle.sealed.specs.Image.{slot, look_refusals, other_place, access_answer}
use Rattle.sealed.proofs.ImageLaws.{slice-length}
use Rattle.sealed.proofs.AccessLaws.{Opens, early, decided, opens}
use Rattle.sealed.proofs.OutcomeLaws.{done_count}
use Rattle.sealed.proofs.find.Goals as goal
use Rattle.sealed.proofs.find.Goals.{In_ok-judged}

pub returns-in_err-judged : goal.returns-in_err-judged
returns-in_err-judged c =
    let a = c.args in
    let p = err_from_is_err_and c.from_residual.result c.from_residual.ensures.1 in
    rw (p.1, p.2)
    (early _ _ a.image.now _ _ _ c.offset_reached-placed.ensures c.within_page.ensures c.in_err-judged.field-0.0 c.in_err-judged.ensures
    (272 * slot a.geometry a.bank (a.offset / 256)))

-- what holds where the call is taken up to its look
taken : (c : In_ok-judged) → Opens c.args.t c.args.geometry (length c.args.image.now) c.args.bank c.args.offset c.args.n
taken c = opens c.offset_reached-placed.ensures c.within_page.ensures (done_count _ _ _ _ c.in_ok-judged.ensures).0

pub record_start-at-requires : goal.record_start-at-requires
record_start-at-requires c =
    let k = taken (goal.at.record_start-at-requires c).In_ok-judged in (k.there.geometry, k.reaches)

pub invariant_of-cipher : goal.invariant_of-cipher
invariant_of-cipher c =
    record {
      start = (taken (goal.at.invariant_of-cipher c).In_ok-judged).start;
    }

pub overflow_add-at : goal.overflow_add-at
overflow_add-at c =
    let k = taken (goal.at.overflow_add-at c).In_ok-judged in
    omega (arith, k.room, k.small, c.record_start-at.ensures)

pub slice_bounds-look-end : goal.slice_bounds-look-end
slice_bounds-look-end c =
    let k = taken (goal.at.slice_bounds-look-end c).In_ok-judged in
    omega (arith, k.room, c.record_start-at.ensures)

pub look-requires : goal.look-requires
look-requires c =
    let a = c.args in
    let k = taken (goal.at.look-requires c).In_ok-judged in
    slice-length a.geometry a.bank (a.offset / 256) c.record_start-at.result a.image.now c.record_start-at.ensures k.room

-- the look decides, and what is answered counts where the record begins
seen :
    (c : In_ok-judged) (at : ℕ) (place : at ≡ 272 * slot c.args.geometry c.args.bank (c.args.offset / 256)) (s : Seen)
    → s ≡ whose (deciphered c.args.t) c.args.bank (c.args.offset / 256) (take (at + 272 - at) (drop at c.args.image.now))
    → answer_at (other_place s) (given (look_refusals s)) at
    ≡ access_answer c.args.t c.args.geometry c.args.image.now c.args.bank c.args.offset c.args.n (272 * slot c.args.geometry c.args.bank (c.args.offset / 256))
seen c at place s l =
    let a = c.args in
    ap (answer_at (other_place s) (given (look_refusals s))) place
    ∙ decided a.t a.geometry a.image.now a.bank a.offset a.n c.offset_reached-placed.ensures c.within_page.ensures (done_count _ _ _ _ c.in_ok-judged.ensures).0
    at place l (272 * slot a.geometry a.bank (a.offset / 256))

pub returns-in-Own : goal.returns-in-Own
unfolding given look_refusals answer_at
returns-in-Own c = seen (goal.at.returns-in-Own c).In_ok-judged _ c.record_start-at.ensures Own c.in-Own.ensures

pub returns-in-Other : goal.returns-in-Other
unfolding given look_refusals answer_at
returns-in-Other c = seen (goal.at.returns-in-Other c).In_ok-judged _ c.record_start-at.ensures (Other c.in-Other.location) c.in-Other.ensures

pub returns-in-NoPlace : goal.returns-in-NoPlace
unfolding given look_refusals answer_at
returns-in-NoPlace c = seen (goal.at.returns-in-NoPlace c).In_ok-judged _ c.record_start-at.ensures NoPlace c.in-NoPlace.ensures
