-- The loop of `Cipher::unrounds`: with 2r rounds to undo, undoing them gives the whole.
use Rattle.std.proofs.Common.{◌≡◌, ◌*◌}
use Rattle.block.specs.Rounds.{unrounds}
use Rattle.block.specs.Block.{g, subkey}
use Rattle.block.proofs.Cipher.unrounds.Given as goal

abbrev pub invariant-loop-r : goal.invariant-loop-r
invariant-loop-r l =
    unrounds (g l.self.t.s l.self.t.start) (subkey l.self.t.k) (2 * l.r) l.c ≡ unrounds (g l.self.t.s l.self.t.start) (subkey l.self.t.k) 16 l.fn.w
