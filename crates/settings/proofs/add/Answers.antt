-- `settings::add` meets its contract: the first refusal in order, or the record after the used ones.
use Rattle.std.proofs.Common.{◌≡◌, ℕ, ◌*◌, Bool, List, eqb, length, refl, sym, ap, ◌∙◌, arith}
use Rattle.std.proofs.lemmas.Bool.{eqb-false}
use Rattle.spans.specs.Parts.{splice}
use Rattle.spans.specs.Refusals.{given, leaves}
use Rattle.spans.proofs.PartsLaws.{mid_splice}
use Rattle.settings.specs.declared.Entry.{Entry}
use Rattle.settings.specs.Records.{laid, outside}
use Rattle.settings.specs.Answers.{refusals, add_number, add_answer, written}
use Rattle.settings.proofs.RecordLaws.{laid-length}
use Rattle.settings.proofs.AnswerLaws.{takes, refused_added, refused_leaves}
use Rattle.settings.proofs.add.Goals as goal

-- what the code judges is what is to be judged
judged :
    (store : List ℕ) (used n : ℕ) (entry : Entry) (out : Bool) → out ≡ outside used entry
    → n ≡ given (refusals store used out (eqb used 1024)) → n ≡ add_number store used entry
unfolding add_number
judged store used n entry out o e = e ∙ ap (λ (b : Bool). given (refusals store used b (eqb used 1024))) o

pub returns-in-Err-clause-outcome : goal.returns-in-Err-clause-outcome
returns-in-Err-clause-outcome c =
    refused_added c.in-Err.refusal (judged _ _ _ _ _ c.outside.ensures c.in-Err.ensures) c.args.used _ (omega arith)

pub returns-in-Err-clause-store : goal.returns-in-Err-clause-store
returns-in-Err-clause-store c = refused_leaves c.in-Err.refusal (judged _ _ _ _ _ c.outside.ensures c.in-Err.ensures) _ _

pub slice_bounds-copy_from_slice-end : goal.slice_bounds-copy_from_slice-end
slice_bounds-copy_from_slice-end c =
    let k = takes _ _ _ _ c.in_default.ensures in omega (arith, k.long, k.few, eqb-false _ _ k.room)

pub to_bytes-requires : goal.to_bytes-requires
to_bytes-requires c = (c.args.used, sym c.outside.ensures ∙ (takes _ _ _ _ c.in_default.ensures).inside)

pub overflow_add-result : goal.overflow_add-result
overflow_add-result c = omega (arith, (takes _ _ _ _ c.in_default.ensures).few)

pub returns-clause-outcome : goal.returns-clause-outcome
unfolding add_answer
returns-clause-outcome c = rw (sym (judged _ _ _ _ _ c.outside.ensures c.in_default.ensures)) refl

pub returns-clause-store : goal.returns-clause-store
unfolding leaves written
returns-clause-store c =
    let store : List ℕ = c.args.store.now in
    let at : ℕ = 8 * c.args.used in
    let made : c.copy_from_slice.new.self ≡ laid c.args.entry = c.copy_from_slice.ensures.after ∙ c.to_bytes.ensures in
    rw (sym (judged _ _ _ _ _ c.outside.ensures c.in_default.ensures))
    (mid_splice at _ _ store (ap length made ∙ laid-length c.args.entry ∙ omega arith) ∙ ap (λ (l : List ℕ). splice at l store) made)
