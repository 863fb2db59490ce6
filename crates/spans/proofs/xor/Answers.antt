-- `spans::xor` meets its contract: after i turns the first i bytes of the xor stand in front.
use Rattle.std.proofs.Common.{ℕ, get_or, sym, ap, ◌∙◌, arith}
use lib.Bits.{bit_xor}
use Rattle.spans.proofs.BytesLaws.{xor-length, xor_at}
use Rattle.spans.proofs.Front.{front_none, front_next, front_more, front_done}
use Rattle.spans.proofs.xor.Goals as goal

pub loop-i-init : goal.loop-i-init
loop-i-init c = front_none (c.least-n.ensures ∙ sym (xor-length c.args.dst.now c.args.src.now)) (omega arith)

pub loop-i-preserved : goal.loop-i-preserved
loop-i-preserved c =
    front_more c.loop-i.invariant (omega arith)
    (ap (λ (b : ℕ). bit_xor b (get_or c.args.src.now c.loop-i.i 0)) (front_next c.loop-i.invariant)
    ∙ xor_at c.args.dst.now c.args.src.now c.loop-i.i (omega arith) (omega arith))

pub returns : goal.returns
returns c = front_done c.loop-i.invariant (omega arith)
