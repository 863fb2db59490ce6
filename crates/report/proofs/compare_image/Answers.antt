-- `report::compare_image` meets its contract: the refusals in order, or the totals of the slots.
use Rattle.std.proofs.Common.{◌≡◌, ℕ, ◌+◌, ◌*◌, ◌<◌, ◌≤◌, Bool, true, false, refl, sym, ap, ◌∙◌, arith}
use Rattle.std.proofs.lemmas.Result.{err_from_is_err_and}
use Rattle.sealed.proofs.OutcomeLaws.{refused_number, done_count}
use Rattle.sealed.specs.declared.Geometry.{Geometry}
use Rattle.masks.specs.Masks.{how_many}
use Rattle.masks.proofs.Counting.{how_many-le}
use Rattle.report.specs.declared.Totals.{Totals}
use Rattle.report.specs.Slots.{is_same, is_changed, is_unreadable, slot_that, slots_that}
use Rattle.report.proofs.RefusalsInOrder.{taken}
use Rattle.report.proofs.CountLaws.{page_counts, slot_place, slots_that-more}
use Rattle.report.proofs.AnswerLaws.{totals_refused, totals_done}
use Rattle.report.proofs.compare_image.Goals as goal
use Rattle.report.proofs.compare_image.Goals.{After-compare_slot, in-Same, in-Changed, in-Unreadable}

pub returns-in_err-judge : goal.returns-in_err-judge
returns-in_err-judge c =
    let p = err_from_is_err_and c.from_residual.result c.from_residual.ensures.1 in
    let e = c.in_err-judge.field-0.0 in
    rw (p.1, p.2) (totals_refused _ _ _ e _ (refused_number e _ _ _ c.in_err-judge.ensures))

pub overflow_mul-slot-end : goal.overflow_mul-slot-end
overflow_mul-slot-end c = let k = taken _ _ _ _ (sym (done_count _ _ _ _ c.in_ok-judge.ensures).0) in omega (arith, k.few)

pub loop-slot-init : goal.loop-slot-init
unfolding how_many
loop-slot-init c = record { same = refl; changed = refl; unreadable = refl }

pub compare_slot-requires-clause-taken : goal.compare_slot-requires-clause-taken
compare_slot-requires-clause-taken c = sym (done_count _ _ _ _ c.in_ok-judge.ensures).0

pub compare_slot-requires-clause-there : goal.compare_slot-requires-clause-there
compare_slot-requires-clause-there c =
    let a = c.args in
    let p = slot_place a.geometry c.loop-slot.slot (omega (arith, c.loop-slot-test.true)) in
    (page_counts a.geometry _ _ p.0 p.1).0

-- a count of the slots so far is no more than there are
few : (G : Geometry) (f : ℕ → ℕ → Bool) (slot n : ℕ) → n ≡ how_many (slot_that G f) slot → n ≤ slot
few G f slot n e = let k = how_many-le (slot_that G f) slot in omega (arith, k, e)

-- so one more fits
fits :
    (G : Geometry) (slot a b c : ℕ) (f g h : ℕ → ℕ → Bool) → G.pages * G.banks ≤ 65536 → slot < G.pages * G.banks
    → a ≡ how_many (slot_that G f) slot → b ≡ how_many (slot_that G g) slot → c ≡ how_many (slot_that G h) slot
    → (a < 65536) × (b < 65536) × (c < 65536)
fits G slot a b c f g h small k p q r = (
  omega (arith, small, k, few G f slot a p),
  omega (arith, small, k, few G g slot b q),
  omega (arith, small, k, few G h slot c r),
)

room : (c : After-compare_slot) → (c.loop-slot.totals.same < 65536) × (c.loop-slot.totals.changed < 65536) × (c.loop-slot.totals.unreadable < 65536)
room c =
    let l = c.loop-slot in
    let k = taken _ _ _ _ (sym (done_count _ _ _ _ c.in_ok-judge.ensures).0) in
    fits c.args.geometry l.slot _ _ _ _ _ _ k.few (omega (arith, c.loop-slot-test.true)) l.invariant.same l.invariant.changed l.invariant.unreadable

pub overflow_add-totals : goal.overflow_add-totals
overflow_add-totals c = let m = room (goal.at.overflow_add-totals c).After-compare_slot in omega (arith, m.0, m.1, m.2)

pub overflow_add-totals-in-Changed : goal.overflow_add-totals-in-Changed
overflow_add-totals-in-Changed c = let m = room (goal.at.overflow_add-totals-in-Changed c).After-compare_slot in omega (arith, m.0, m.1, m.2)

pub overflow_add-totals-in-Unreadable : goal.overflow_add-totals-in-Unreadable
overflow_add-totals-in-Unreadable c = let m = room (goal.at.overflow_add-totals-in-Unreadable c).After-compare_slot in omega (arith, m.0, m.1, m.2)

pub loop-slot-preserved : goal.loop-slot-preserved
loop-slot-preserved c =
    let a = c.args in
    let l = c.loop-slot in
    let h : l.slot < a.geometry.pages * a.geometry.banks = omega (arith, c.loop-slot-test.true) in
    let kept : (n : ℕ) → n ≡ n + 0 = λ n. omega arith in
    elim c.match-compare_slot.branch [
      | in-Same w ↦ record {
        same = slots_that-more a.geometry _ l.slot _ _ true h l.invariant.same w.in-Same.ensures.same (ap (λ (x : Totals). x.same) w.totals-is);
        changed = slots_that-more a.geometry _ l.slot _ _ false h l.invariant.changed w.in-Same.ensures.changed (ap (λ (x : Totals). x.changed) w.totals-is ∙ kept _);
        unreadable = slots_that-more a.geometry _ l.slot _ _ false h l.invariant.unreadable w.in-Same.ensures.unreadable (ap (λ (x : Totals). x.unreadable) w.totals-is ∙ kept _);
      }
      | in-Changed w ↦ record {
        same = slots_that-more a.geometry _ l.slot _ _ false h l.invariant.same w.in-Changed.ensures.same (ap (λ (x : Totals). x.same) w.totals-is ∙ kept _);
        changed = slots_that-more a.geometry _ l.slot _ _ true h l.invariant.changed w.in-Changed.ensures.changed (ap (λ (x : Totals). x.changed) w.totals-is);
        unreadable = slots_that-more a.geometry _ l.slot _ _ false h l.invariant.unreadable w.in-Changed.ensures.unreadable (ap (λ (x : Totals). x.unreadable) w.totals-is ∙ kept _);
      }
      | in-Unreadable w ↦ record {
        same = slots_that-more a.geometry _ l.slot _ _ false h l.invariant.same w.in-Unreadable.ensures.same (ap (λ (x : Totals). x.same) w.totals-is ∙ kept _);
        changed = slots_that-more a.geometry _ l.slot _ _ false h l.invariant.changed w.in-Unreadable.ensures.changed (ap (λ (x : Totals). x.changed) w.totals-is ∙ kept _);
        unreadable = slots_that-more a.geometry _ l.slot _ _ true h l.invariant.unreadable w.in-Unreadable.ensures.unreadable (ap (λ (x : Totals). x.unreadable) w.totals-is);
      }
    ]

pub returns : goal.returns
unfolding slots_that
returns c =
    let a = c.args in
    let l = c.loop-slot in
    let last : l.slot ≡ a.geometry.pages * a.geometry.banks = omega (arith, c.loop-slot-test.false, l.auto.slot-end) in
    totals_done _ _ _ _ _ (done_count _ _ _ _ c.in_ok-judge.ensures).0
    (l.invariant.same ∙ ap (how_many (slot_that a.geometry (is_same a.t a.geometry a.old.now a.new.now))) last)
    (l.invariant.changed ∙ ap (how_many (slot_that a.geometry (is_changed a.t a.geometry a.old.now a.new.now))) last)
    (l.invariant.unreadable ∙ ap (how_many (slot_that a.geometry (is_unreadable a.t a.geometry a.old.now a.new.now))) last)
