-- The loop of `Accepted::chain_blocks`: the blocks so far, and the rest after the last chaining block, make the whole.
use Rattle.std.proofs.Common.{◌≡◌, ◌*◌, ◌/◌, ◌-◌, ◌++◌, length, take, drop}
use Rattle.block.specs.Block.{enciphered}
use Rattle.sealed.specs.Cbc.{cbc}
use Rattle.sealed.proofs.Accepted.chain_blocks.Given as goal

abbrev pub invariant-loop-i : goal.invariant-loop-i
invariant-loop-i l =
    take (16 * l.i) l.blocks ++ cbc (enciphered l.self.t) l.last (length l.initial.blocks / 16 - l.i) (drop (16 * l.i) l.blocks)
    ≡ cbc (enciphered l.self.t) l.fn.chain (length l.initial.blocks / 16) l.initial.blocks
