-- `Key::step` meets its contract: each byte goes through its permutation and a key byte is added.
use Rattle.std.proofs.Common.{◌≡◌, length, sym, ◌+◌, ◌*◌, ◌-◌, ◌∙◌, arith}
use Rattle.twofish.specs.Schedule.{units}
use Rattle.twofish.proofs.HLaws.{part_added}
use Rattle.twofish.proofs.Key.step.Goals as goal

pub returns : goal.returns
returns c =
    let a = c.args in
    let long : length a.self.now.m.now ≡ 8 * units a.self.now.m.now = a.self.now.whole.long in
    simp (sym c.from.ensures.0)
    (c.xor.ensures
    ∙ part_added (3 - a.i) a.y _ a.self.now.m.now (2 * a.i + c.from.result) _ c.through-y.ensures (omega arith) (omega arith) a.self.now.whole.byte)
