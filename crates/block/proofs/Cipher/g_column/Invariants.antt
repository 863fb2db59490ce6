-- The loop of `Cipher::g_column`: v is byte j before step z.
use Rattle.std.proofs.Common.{◌≡◌, ◌-◌, ◌<◌}
use Rattle.twofish.specs.H.{permuted_at, y}
use Rattle.block.specs.Block.{s_list}
use Rattle.block.proofs.Cipher.g_column.Given as goal

abbrev pub invariant-loop-z : goal.invariant-loop-z
invariant-loop-z l =
    record {
      past : l.self.t.start < l.z;
      byte : l.v ≡ permuted_at (l.z - 1) (y (s_list l.self.t.s l.self.t.start) l.x (5 - l.z) (l.z - 1 - l.self.t.start)) l.j;
    }
