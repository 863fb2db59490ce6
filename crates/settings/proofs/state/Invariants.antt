-- The loop of `settings::state`: the walk with n records left.
use Rattle.settings.specs.Records.{record_at}
use Rattle.settings.proofs.WalkLaws.{Walk}
use Rattle.settings.proofs.state.Given as goal

abbrev pub invariant-loop-n : goal.invariant-loop-n
invariant-loop-n l = Walk (record_at l.store) l.version l.n l.found l.values

abbrev pub decreases-loop-n : goal.decreases-loop-n
decreases-loop-n l = l.n
