-- The loop of `Accepted::unchain_blocks`: the blocks so far, and the rest after the last chaining block, make the whole.
use Rattle.std.proofs.Common.{◌≡◌, ◌*◌, ◌/◌, ◌-◌, ◌++◌, length, take, drop}
use Rattle.block.specs.Block.{deciphered}
use Rattle.sealed.specs.Cbc.{uncbc}
use Rattle.sealed.proofs.Accepted.unchain_blocks.Given as goal

abbrev pub invariant-loop-i : goal.invariant-loop-i
invariant-loop-i l =
    (length l.previous ≡ 16)
    × take (16 * l.i) l.blocks ++ uncbc (deciphered l.self.t) l.previous (length l.initial.blocks / 16 - l.i) (drop (16 * l.i) l.blocks)
    ≡ uncbc (deciphered l.self.t) l.fn.chain (length l.initial.blocks / 16) l.initial.blocks
