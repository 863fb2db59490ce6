-- The loop of `field::rs_row`: out is the row's sum over the bytes so far, and what is left of both lists comes next.
use Rattle.std.proofs.Common.{◌≡◌, ◌≤◌, [], ◌∷◌, length, drop}
use Rattle.field.specs.Matrix.{rs_poly, row_times}
use Rattle.field.proofs.rs_row.Given as goal

abbrev pub invariant-loop-b : goal.invariant-loop-b
invariant-loop-b l =
    record {
      sum : l.out ≡ row_times rs_poly (l.row ∷ []) 0 l.m (length l.yielded);
      bytes : l.b-iterator.a.rest.now ≡ drop (length l.yielded) l.m;
      entries : l.b-iterator.b.rest.now ≡ drop (length l.yielded) l.row;
      turns : length l.yielded ≤ 8;
    }
