-- `report::compare_slot` meets its contract: a look at the old image, the two records, and a look at the new one where they differ.
use Rattle.std.proofs.Common.{ℕ, ◌*◌, get_or, ◌^◌, ◌<◌, sym, ◌∙◌, arith, rules}
use Rattle.sealed.proofs.ImageLaws.{place, page_byte}
use Rattle.sealed.proofs.AccessLaws.{found}
use Rattle.report.proofs.RefusalsInOrder.{taken}
use Rattle.report.proofs.SlotLaws.{refused_look, refused_result, own_look, read_result, plain-records, unreadable_old, unreadable_new, same_record, other_pages}
use Rattle.report.proofs.compare_slot.Goals as goal
use Rattle.report.proofs.compare_slot.Goals.{Else-is_err}

pub overflow_mul-front : goal.overflow_mul-front
overflow_mul-front c =
    let k = taken _ _ _ _ c.requires.taken in
    let small = page_byte (place k.geometry c.requires.there) in
    omega (arith, small)

pub returns-in_default : goal.returns-in_default
returns-in_default c =
    let a = c.args in
    let k = taken _ _ _ _ c.requires.taken in
    unreadable_old _ _ _ _ _ _
    (refused_look a.t a.geometry a.old.now a.bank a.page k.start k.geometry k.old_whole c.requires.there c.in_default.field-0 _ c.in_default.ensures)

pub overflow_add-end : goal.overflow_add-end
overflow_add-end c = let k = found c.in-Ok.ensures in omega (arith, k.call.room, k.call.small, k.place)

pub slice_bounds-eq-end : goal.slice_bounds-eq-end
slice_bounds-eq-end c = let k = found c.in-Ok.ensures in omega (arith, k.call.room, k.place)

pub slice_bounds-eq-end-2 : goal.slice_bounds-eq-end-2
slice_bounds-eq-end-2 c =
    let k = found c.in-Ok.ensures in
    let m = taken _ _ _ _ c.requires.taken in
    omega (arith, k.call.room, k.place, m.old_whole, m.new_whole)

pub returns-then-eq : goal.returns-then-eq
returns-then-eq c =
    let a = c.args in
    let k = taken _ _ _ _ c.requires.taken in
    let f = found c.in-Ok.ensures in
    same_record a.t a.geometry a.old.now a.new.now a.bank a.page c.in-Ok.at f.place
    (own_look a.t a.geometry a.old.now a.bank a.page k.start k.geometry k.old_whole c.requires.there f.done) (sym c.eq.ensures ∙ c.if-eq.true)

pub returns-then-is_err : goal.returns-then-is_err
returns-then-is_err c =
    let a = c.args in
    let k = taken _ _ _ _ c.requires.taken in
    unreadable_new _ _ _ _ _ _
    (refused_result a.t a.geometry a.new.now a.bank a.page k.start k.geometry k.new_whole c.requires.there c.find-2.result _
    (sym c.is_err.ensures.value ∙ c.if-is_err.true) c.find-2.ensures)

pub returns : goal.returns
returns c =
    let a = c.args in
    let k = taken _ _ _ _ c.requires.taken in
    let f = found c.in-Ok.ensures in
    let n = read_result a.t a.geometry a.new.now a.bank (256 * a.page) 1 _ c.find-2.result (sym c.is_err.ensures.value ∙ c.if-is_err.false) c.find-2.ensures in
    let keys : (j : ℕ) → get_or a.t.k j 0 < 2 ^ 32 = λ j. search rules in
    other_pages a.t a.geometry a.old.now a.new.now a.bank a.page
    (own_look a.t a.geometry a.old.now a.bank a.page k.start k.geometry k.old_whole c.requires.there f.done)
    (own_look a.t a.geometry a.new.now a.bank a.page k.start k.geometry k.new_whole c.requires.there n)
    (plain-records a.t record { keys = keys } a.geometry a.old.now a.new.now a.bank a.page c.in-Ok.at (λ j. search rules) (λ j. search rules) f.done n f.place
    ∙ sym c.eq.ensures ∙ c.if-eq.false)
