-- `Key::subkeys` meets its contract: a turn stores a pair of subkeys.
use Rattle.std.proofs.Common.{◌+◌, ◌*◌, ◌<◌, length, refl, arith}
use Rattle.std.proofs.Math.ListN.{length-set}
use Rattle.twofish.specs.Lists.{listed}
use Rattle.twofish.specs.Schedule.{k_word, units}
use Rattle.twofish.proofs.ListLaws.{fill_two}
use Rattle.twofish.proofs.ScheduleLaws.{even_key, odd_key}
use Rattle.twofish.proofs.Key.subkeys.Goals as goal

pub loop-x-init : goal.loop-x-init
unfolding listed
loop-x-init c = record { long = refl; done = refl }

pub loop-x-preserved : goal.loop-x-preserved
loop-x-preserved c =
    let l = c.loop-x in
    let m = c.args.self.now.m.now in
    let k = units c.args.self.now.m.now in
    let room : 2 * l.x + 1 < length l.ks = omega arith in
    record {
      long = simp length-set l.invariant.long;
      done =
          fill_two (k_word m k) l.ks l.x _ _ l.invariant.done room
          (even_key m k l.x _ _ _ _ c.h-a.ensures c.h.ensures c.rotate_left-b.ensures c.wrapping_add-v.ensures)
          (odd_key m k l.x _ _ _ _ c.h-a.ensures c.h.ensures c.rotate_left-b.ensures c.wrapping_add-v.ensures
          _ _ c.wrapping_add.ensures c.rotate_left.ensures);
    }
