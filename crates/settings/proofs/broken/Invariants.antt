-- The loop of `settings::broken`: none of the records so far breaks the layout.
use Rattle.std.proofs.Common.{◌≡◌, false}
use Rattle.settings.specs.Records.{broken}
use Rattle.settings.proofs.broken.Given as goal

abbrev pub invariant-loop-i : goal.invariant-loop-i
invariant-loop-i l = broken l.i l.store ≡ false
