-- The loop of `Key::subkeys`: the first 2x subkeys are there.
use Rattle.std.proofs.Common.{◌≡◌, ◌*◌, length, take}
use Rattle.twofish.specs.Lists.{listed}
use Rattle.twofish.specs.Schedule.{k_word, units}
use Rattle.twofish.proofs.Key.subkeys.Given as goal

abbrev pub invariant-loop-x : goal.invariant-loop-x
invariant-loop-x l =
    record { long : length l.ks ≡ 40; done : take (2 * l.x) l.ks ≡ listed (k_word l.self.m.now (units l.self.m.now)) (2 * l.x) }
