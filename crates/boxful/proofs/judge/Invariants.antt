-- The loop of `boxful::judge`: the patches so far are taken, so the rest decides.
use Rattle.std.proofs.Common.{◌≡◌, drop}
use Rattle.boxful.specs.Boxful.{item_number, item_held, first_refused}
use Rattle.boxful.proofs.judge.Given as goal

abbrev pub invariant-loop-i : goal.invariant-loop-i
invariant-loop-i l =
    first_refused (item_number l.t l.geometry l.image l.bytes) (item_held l.t l.geometry l.image l.bytes) 0 l.patches
    ≡ first_refused (item_number l.t l.geometry l.image l.bytes) (item_held l.t l.geometry l.image l.bytes) l.i (drop l.i l.patches)
