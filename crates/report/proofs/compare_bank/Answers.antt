-- `report::compare_bank` meets its contract: the refusals in order, or the pages that changed.
use Rattle.std.proofs.Common.{◌≡◌, ℕ, ◌<◌, Bool, List, sym, ap, ◌∙◌, arith}
use Rattle.std.proofs.lemmas.Result.{err_from_is_err_and}
use Rattle.twofish.specs.declared.Refusal.TheVariants.{Place}
use Rattle.twofish.proofs.AnswerLaws.{never_done}
use Rattle.sealed.proofs.ImageLaws.{page_byte}
use Rattle.sealed.proofs.OutcomeLaws.{refused_number, done_count}
use Rattle.masks.specs.Masks.{is_set, masks_of, marked, how_many}
use Rattle.masks.proofs.MaskLaws.{how_many-masks_of}
use Rattle.masks.proofs.Marking.{below-none, below-marked, below-kept, below-all}
use Rattle.report.specs.Slots.{page_changed}
use Rattle.report.proofs.RefusalsInOrder.{taken, bank_refused, no_bank, bank_taken}
use Rattle.report.proofs.CountLaws.{page_counts, no_page, page_changed-there, found_other}
use Rattle.report.proofs.AnswerLaws.{changes_refused, changes_done}
use Rattle.report.proofs.compare_bank.Goals as goal
use Rattle.report.proofs.compare_bank.Goals.{Joined-matches-2, in-Changed, in_default, then-matches, else-matches}

pub returns-in_err-judge : goal.returns-in_err-judge
returns-in_err-judge c =
    let p = err_from_is_err_and c.from_residual.result c.from_residual.ensures.1 in
    let e = c.in_err-judge.field-0.0 in
    rw (p.1, p.2) (changes_refused e _ _ _ (bank_refused _ _ _ _ _ _ (λ z. never_done e (sym z)) (refused_number e _ _ _ c.in_err-judge.ensures)))

pub returns-then-bank-geometry : goal.returns-then-bank-geometry
returns-then-bank-geometry c =
    changes_refused Place _ _ _ (no_bank _ _ _ _ _ (sym (done_count _ _ _ _ c.in_ok-judge.ensures).0) (omega (arith, c.if-bank-geometry.true)))

pub loop-page-init : goal.loop-page-init
loop-page-init c = below-none _

pub compare_slot-requires-clause-taken : goal.compare_slot-requires-clause-taken
compare_slot-requires-clause-taken c = sym (done_count _ _ _ _ c.in_ok-judge.ensures).0

pub compare_slot-requires-clause-there : goal.compare_slot-requires-clause-there
compare_slot-requires-clause-there c = (page_counts _ _ _ (omega (arith, c.if-bank-geometry.false)) (omega (arith, c.loop-page-test.true))).0

-- the test is whether the page changed
tested : (c : Joined-matches-2) → page_changed c.args.t c.args.geometry c.args.old.now c.args.new.now c.args.bank c.loop-page.page ≡ c.match-matches.matches
tested c =
    let a = c.args in
    page_changed-there a.t a.geometry a.old.now a.new.now a.bank c.loop-page.page c.match-matches.matches (omega (arith, c.if-bank-geometry.false))
    (omega (arith, c.loop-page-test.true))
    (elim c.match-matches.branch [
      | in-Changed w ↦ w.matches-is ∙ w.in-Changed.ensures.changed
      | in_default w ↦ w.matches-is ∙ sym (found_other c.compare_slot.result w.in_default.not-Changed) ∙ c.compare_slot.ensures.changed
    ])

pub loop-page-preserved : goal.loop-page-preserved
loop-page-preserved c =
    let a = c.args in
    let l = c.loop-page in
    let f : ℕ → Bool = page_changed a.t a.geometry a.old.now a.new.now a.bank in
    let k = taken _ _ _ _ (sym (done_count _ _ _ _ c.in_ok-judge.ensures).0) in
    let few : l.page < 256 = page_byte {bank = a.bank} record { geometry = k.geometry; banked = omega (arith, c.if-bank-geometry.false); paged = omega (arith, c.loop-page-test.true) } in
    elim c.if-matches.branch [
      | then-matches w ↦ w.masks-is ∙ w.mark.ensures ∙ ap (λ (m : List ℕ). marked m l.page) l.invariant ∙ below-marked f l.page few (tested c ∙ w.if-matches.true)
      | else-matches w ↦ w.masks-is ∙ l.invariant ∙ below-kept f l.page (tested c ∙ w.if-matches.false)
    ]

pub returns : goal.returns
returns c =
    let a = c.args in
    let l = c.loop-page in
    let f : ℕ → Bool = page_changed a.t a.geometry a.old.now a.new.now a.bank in
    let all : l.masks ≡ masks_of f = l.invariant ∙ below-all f l.page (λ p h. no_page a.t a.geometry a.old.now a.new.now a.bank p (omega (arith, h, c.loop-page-test.false))) in
    changes_done _ _ _ _ (bank_taken _ _ _ _ _ (sym (done_count _ _ _ _ c.in_ok-judge.ensures).0) (omega (arith, c.if-bank-geometry.false)))
    all (c.ones.ensures ∙ ap (λ (m : List ℕ). how_many (is_set m) 256) all ∙ how_many-masks_of f)
