-- `Cipher::f_func` meets its contract: F0 and F1 as the code sums them.
use Rattle.block.specs.Block.{g}
use Rattle.block.proofs.RoundLaws.{sums}
use Rattle.block.proofs.Cipher.f_func.Goals as goal

pub returns : goal.returns
returns c =
    let a = c.args in
    let t = a.self.now.t in
    let e =
    sums (g t.s t.start) a.k0 a.k1 a.r0 a.r1 _ _ _ _ _ _ _ c.g_func.ensures c.rotate_left.ensures c.g_func-t1.ensures
    c.wrapping_add-t0.ensures c.wrapping_add.ensures c.wrapping_add-t2.ensures c.wrapping_add-2.ensures in
    record { first = e.0; second = e.1 }
