-- `settings::state` meets its contract: a turn takes one record more, or goes back.
use Rattle.std.proofs.Common.{◌≡◌, ℕ, ◌-◌, ◌<◌, ◌≤◌, List, false, sym, ap, ◌∙◌, arith}
use Rattle.settings.specs.declared.Entry.{Entry}
use Rattle.settings.specs.declared.Entry.TheVariants.{Set, GoBack}
use Rattle.settings.specs.Records.{outside, broken, record_at}
use Rattle.settings.proofs.RecordLaws.{part_said, record_inside, setting_inside, version_inside}
use Rattle.settings.proofs.WalkLaws.{walk_begun, walk_found, walk_past, walk_back, walk_done}
use Rattle.settings.proofs.state.Goals as goal
use Rattle.settings.proofs.state.Goals.{In-Set, In-GoBack}

-- what the record of a turn says is inside
inside : (store : List ℕ) (version n : ℕ) (x : Entry) → broken version store ≡ false → n < version → record_at store n ≡ x → outside n x ≡ false
inside store version n x e h k = ap (outside n) (sym k) ∙ record_inside store version n h e

module _ (c : In-Set) where
  set_said : record_at c.args.store.now (c.loop-n.n - 1) ≡ Set c.in-Set.setting c.in-Set.value
  set_said = part_said _ _ _ c.in-Set.ensures

  small : c.in-Set.setting < 32
  small =
      setting_inside (c.loop-n.n - 1) c.in-Set.setting c.in-Set.value
      (inside c.args.store.now c.args.version (c.loop-n.n - 1) _ c.requires.whole (omega (arith, c.loop-n.invariant.few)) set_said)

module _ (c : In-GoBack) where
  back_said : record_at c.args.store.now (c.loop-n.n - 1) ≡ GoBack c.in-GoBack.version
  back_said = part_said _ _ _ c.in-GoBack.ensures

  early : c.in-GoBack.version ≤ c.loop-n.n - 1
  early =
      version_inside (c.loop-n.n - 1) c.in-GoBack.version
      (inside c.args.store.now c.args.version (c.loop-n.n - 1) _ c.requires.whole (omega (arith, c.loop-n.invariant.few)) back_said)

pub loop-n-init : goal.loop-n-init
loop-n-init c = walk_begun _ _

pub bounds-found-i : goal.bounds-found-i
bounds-found-i c = small c

pub bounds-found-i-then-not-found-i : goal.bounds-found-i-then-not-found-i
bounds-found-i-then-not-found-i c = small (goal.at.bounds-found-i-then-not-found-i c).In-Set

pub bounds-values-i : goal.bounds-values-i
bounds-values-i c = small (goal.at.bounds-values-i c).In-Set

pub loop-n-preserved-then-not-found-i : goal.loop-n-preserved-then-not-found-i
loop-n-preserved-then-not-found-i c =
    let k = (goal.at.loop-n-preserved-then-not-found-i c).In-Set in
    walk_found c.loop-n.invariant _ (omega arith) _ _ (set_said k) (small k) c.if-not-found-i.true

pub loop-n-preserved-else-not-found-i : goal.loop-n-preserved-else-not-found-i
loop-n-preserved-else-not-found-i c =
    let k = (goal.at.loop-n-preserved-else-not-found-i c).In-Set in
    walk_past c.loop-n.invariant _ (omega arith) _ _ (set_said k) (small k) c.if-not-found-i.false

pub loop-n-smaller : goal.loop-n-smaller
loop-n-smaller c = omega (arith, early (goal.at.loop-n-smaller c).In-GoBack)

pub loop-n-preserved : goal.loop-n-preserved
loop-n-preserved c =
    let k = (goal.at.loop-n-preserved c).In-GoBack in
    walk_back c.loop-n.invariant _ (omega arith) _ (back_said k) (early k) _ (omega (arith, early k))

pub returns : goal.returns
returns c = walk_done c.loop-n.invariant (omega arith)
