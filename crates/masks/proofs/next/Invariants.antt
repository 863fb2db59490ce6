-- The loop of `masks::next`: the next page from where it stands on is the one that is asked for.
use Rattle.std.proofs.Common.{◌≡◌, ◌-◌}
use Rattle.masks.specs.Masks.{is_set, next_of}
use Rattle.masks.proofs.next.Given as goal

abbrev pub invariant-loop-page : goal.invariant-loop-page
invariant-loop-page l = next_of (is_set l.masks) l.from ≡ next_of (is_set l.masks) l.page

abbrev pub decreases-loop-page : goal.decreases-loop-page
decreases-loop-page l = 256 - l.page
