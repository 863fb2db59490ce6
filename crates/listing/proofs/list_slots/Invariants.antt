-- So far, the bytes of each slot were taken, its line is written, and the slots that are ok are counted.
use Rattle.std.proofs.Common.{◌≡◌, ◌≤◌, ◌*◌, IfSome}
use Rattle.listing.specs.Streams.{Drops, Writes}
use Rattle.listing.specs.Listing.{lines, right_count}
use Rattle.listing.proofs.list_slots.Given as goal

abbrev pub invariant-loop-slot : goal.invariant-loop-slot
invariant-loop-slot g l =
    record {
      rest : Drops (g.R.Read.remaining l.initial.input) (g.R.Read.remaining l.input) (272 * l.slot);
      lines : Writes (g.R.Read.remaining l.initial.input) (g.W.Write.contents l.initial.output) (g.W.Write.contents l.output) (λ image. lines l.fn.opening image l.slot);
      right : IfSome (g.R.Read.remaining l.initial.input) (λ image. l.right ≡ right_count l.fn.opening image l.slot);
      few : l.right ≤ l.slot;
    }
