-- The loop of `spans::xor`: after i turns the first i bytes of the xor stand in front.
use Rattle.spans.specs.Bytes.{xor_bytes}
use Rattle.spans.proofs.Front.{Front}
use Rattle.spans.proofs.xor.Given as goal

abbrev pub invariant-loop-i : goal.invariant-loop-i
invariant-loop-i l = Front (xor_bytes l.initial.dst l.src) l.initial.dst l.n l.i l.dst
