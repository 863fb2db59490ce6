-- `settings::broken` meets its contract: the first record that breaks the layout decides.
use Rattle.std.proofs.Common.{refl, arith, ℕ, ◌≡◌, ◌-◌, ◌+◌, ◌*◌, take, drop, List, ap, sym, ◌∙◌, suc, true, false, Bool}
use Rattle.settings.specs.Records.{breaks, record_bytes, broken}
use Rattle.settings.proofs.RecordLaws.{part, broken_more, broken_found}
use Rattle.settings.proofs.broken.Goals as goal

pub loop-i-init : goal.loop-i-init
unfolding broken
loop-i-init c = refl

-- what is said of the part that the code takes is said of the record
its_own :
    (i : ℕ) (store : List ℕ) (b c : Bool) → b ≡ breaks i (take (8 * i + 8 - 8 * i) (drop (8 * i) store)) → b ≡ c
    → breaks i (record_bytes i store) ≡ c
its_own i store b c e h = ap (breaks i) (sym (part i store)) ∙ sym e ∙ h

pub returns-then-breaks : goal.returns-then-breaks
returns-then-breaks c =
    let i = c.loop-i.i in
    sym (broken_found c.args.store.now c.args.used i c.loop-i-test.true (its_own i c.args.store.now _ true c.breaks.ensures c.if-breaks.true))

pub loop-i-preserved : goal.loop-i-preserved
loop-i-preserved c =
    let i = c.loop-i.i in
    let store : List ℕ = c.args.store.now in
    let next : i + 1 ≡ suc i = omega arith in
    ap (λ (n : ℕ). broken n store) next ∙ broken_more store i c.loop-i.invariant (its_own i store _ false c.breaks.ensures c.if-breaks.false)
