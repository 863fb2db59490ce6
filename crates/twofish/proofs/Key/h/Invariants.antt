-- The loop of `Key::h`: y is y_i, before the word i - 1 is taken in.
use Rattle.std.proofs.Common.{◌≡◌, ◌-◌, ◌+◌, ◌*◌}
use Rattle.twofish.specs.Lists.{listed, word_at}
use Rattle.twofish.specs.H.{y}
use Rattle.twofish.specs.Half.{first_of}
use Rattle.twofish.specs.Schedule.{units}
use Rattle.twofish.proofs.Key.h.Given as goal

abbrev pub invariant-loop-i : goal.invariant-loop-i
invariant-loop-i l =
    l.y ≡ y (listed (λ i. word_at l.self.m.now (2 * i + first_of l.half)) (units l.self.m.now)) l.x l.i (units l.self.m.now - l.i)
