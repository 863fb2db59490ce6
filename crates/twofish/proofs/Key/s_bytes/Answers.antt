-- `Key::s_bytes` meets its contract: a turn stores four S bytes.
use Rattle.std.proofs.Common.{◌≡◌, ℕ, ◌+◌, ◌-◌, ◌*◌, ◌≤◌, length, take, drop, refl, ap, ◌∙◌, arith, rules}
use Rattle.spans.proofs.PartsLaws.{mid_splice}
use Rattle.field.specs.Matrix.{rs_times}
use Rattle.twofish.specs.Lists.{listed}
use Rattle.twofish.specs.Schedule.{s_bytes, units}
use Rattle.twofish.proofs.ListLaws.{part_written}
use Rattle.twofish.proofs.ScheduleLaws.{s_four}
use Rattle.twofish.proofs.Key.s_bytes.Goals as goal

pub loop-i-init : goal.loop-i-init
unfolding listed
loop-i-init c = refl

pub loop-i-preserved : goal.loop-i-preserved
unfolding s_bytes
loop-i-preserved c =
    let l = c.loop-i in
    let m = c.args.self.now.m.now in
    let few : units c.args.self.now.m.now ≤ 4 = search rules in
    let eight : 8 * l.i + 8 - 8 * l.i ≡ 8 = omega arith in
    let four : 4 * l.i + 4 - 4 * l.i ≡ 4 = omega arith in
    let bytes = c.copy_from_slice.ensures.after ∙ c.rs_mult-four.ensures ∙ ap (λ (n : ℕ). rs_times (take n (drop (8 * l.i) m))) eight in
    mid_splice (4 * l.i) _ _ l.s (ap length bytes ∙ omega (arith, s_four m l.i))
    ∙ part_written (s_bytes m) l.i l.s _ (s_four m) (omega arith) l.invariant bytes
