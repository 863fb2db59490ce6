-- `Cipher::g_column` meets its contract: a turn adds a byte of S and goes through a permutation.
use Rattle.std.proofs.Common.{refl, arith}
use Rattle.field.specs.Matrix.{entry}
use Rattle.sbox.specs.Q.{qbox, qord}
use Rattle.block.proofs.Columns.{first, next}
use Rattle.block.proofs.Cipher.g_column.Goals as goal

pub loop-z-init : goal.loop-z-init
unfolding entry
loop-z-init c =
    let a = c.args in
    let t = a.self.now.t in
    record {
      past = omega arith;
      byte = first qbox qord refl refl t.s t.start a.x a.j c.requires _ _ c.byte_of.ensures c.permuted_at-v.ensures;
    }

pub loop-z-preserved : goal.loop-z-preserved
unfolding entry
loop-z-preserved c =
    let a = c.args in
    let t = a.self.now.t in
    let l = c.loop-z in
    record {
      past = omega arith;
      byte =
          next qbox qord refl refl t.s t.start a.x a.j c.requires l.z l.v _ _
          l.invariant.past (omega arith) l.invariant.byte a.self.now.bytes.byte refl c.permuted_at-v-in-loop-z.ensures;
    }
