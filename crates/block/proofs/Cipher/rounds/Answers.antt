-- `Cipher::rounds` meets its contract: a turn is two rounds.
use Rattle.std.proofs.Common.{refl}
use Rattle.block.specs.Rounds.{rounds}
use Rattle.block.specs.Block.{g, subkey}
use Rattle.block.proofs.RoundLaws.{rounds_two}
use Rattle.block.proofs.Cipher.rounds.Goals as goal

pub loop-r-init : goal.loop-r-init
unfolding rounds
loop-r-init c = refl

pub loop-r-preserved : goal.loop-r-preserved
unfolding subkey
loop-r-preserved c =
    let a = c.args in
    rounds_two (g a.self.now.t.s a.self.now.t.start) (subkey a.self.now.t.k) c.loop-r.r a.w c.loop-r.p _ _ c.loop-r.invariant c.round.ensures c.round-p.ensures
