-- The loop of `boxful::patch_all`: every patch is taken still, and making the rest gives what making all was to give.
use Rattle.std.proofs.Common.{◌≡◌, ℕ, ◌+◌, ◌*◌, ◌<◌, ◌≤◌, length, drop, get_or}
use Rattle.boxful.specs.Boxful.{item_number, all_patched, all_counted}
use Rattle.boxful.proofs.ListLaws.{none}
use Rattle.boxful.proofs.patch_all.Given as goal

abbrev pub invariant-loop-i : goal.invariant-loop-i
invariant-loop-i l =
    ((j : ℕ) → j < length l.patches → item_number l.t l.geometry l.image l.bytes (get_or l.patches j none) ≡ 0)
    × (all_patched l.t l.geometry l.bytes (drop l.i l.patches) l.image ≡ all_patched l.t l.geometry l.bytes l.patches l.initial.image)
    × (l.count + all_counted (drop l.i l.patches) ≡ all_counted l.patches)
    × (l.count ≤ 16 * l.i)
    × (length l.patches ≤ 64)
