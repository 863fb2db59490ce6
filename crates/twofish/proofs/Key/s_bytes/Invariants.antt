-- The loop of `Key::s_bytes`: the S bytes of the first i parts of the key, and zeros.
use Rattle.std.proofs.Common.{◌≡◌, ◌-◌, ◌*◌, ◌++◌, replicate}
use Rattle.std.specs.List.{concat}
use Rattle.twofish.specs.Lists.{listed}
use Rattle.twofish.specs.Schedule.{s_bytes}
use Rattle.twofish.proofs.Key.s_bytes.Given as goal

abbrev pub invariant-loop-i : goal.invariant-loop-i
invariant-loop-i l =
    l.s ≡ concat (listed (s_bytes l.self.m.now) l.i) ++ replicate (16 - 4 * l.i) 0
