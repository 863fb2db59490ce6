-- The loop of `report::compare_image`: the slots so far are counted by what they come to.
use Rattle.std.proofs.Common.{◌≡◌}
use Rattle.masks.specs.Masks.{how_many}
use Rattle.report.specs.Slots.{is_same, is_changed, is_unreadable, slot_that}
use Rattle.report.proofs.compare_image.Given as goal

abbrev pub invariant-loop-slot : goal.invariant-loop-slot
invariant-loop-slot l =
    record {
      same : l.totals.same ≡ how_many (slot_that l.geometry (is_same l.t l.geometry l.old l.new)) l.slot;
      changed : l.totals.changed ≡ how_many (slot_that l.geometry (is_changed l.t l.geometry l.old l.new)) l.slot;
      unreadable : l.totals.unreadable ≡ how_many (slot_that l.geometry (is_unreadable l.t l.geometry l.old l.new)) l.slot;
    }
