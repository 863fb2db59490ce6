-- The loop of `report::compare_bank`: of the pages so far, those that changed are marked.
use Rattle.std.proofs.Common.{◌≡◌}
use Rattle.masks.specs.Masks.{masks_of}
use Rattle.masks.proofs.Marking.{below}
use Rattle.report.specs.Slots.{page_changed}
use Rattle.report.proofs.compare_bank.Given as goal

abbrev pub invariant-loop-page : goal.invariant-loop-page
invariant-loop-page l = l.masks ≡ masks_of (below (page_changed l.t l.geometry l.old l.new l.bank) l.page)
