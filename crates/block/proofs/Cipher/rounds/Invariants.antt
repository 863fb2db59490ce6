-- The loop of `Cipher::rounds`: after r turns 2r rounds are done.
use Rattle.std.proofs.Common.{◌≡◌, ◌*◌}
use Rattle.block.specs.Rounds.{rounds}
use Rattle.block.specs.Block.{g, subkey}
use Rattle.block.proofs.Cipher.rounds.Given as goal

abbrev pub invariant-loop-r : goal.invariant-loop-r
invariant-loop-r l = l.p ≡ rounds (g l.self.t.s l.self.t.start) (subkey l.self.t.k) (2 * l.r) l.fn.w
