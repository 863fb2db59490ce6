-- `Cipher::unrounds` meets its contract: a turn undoes two rounds.
use Rattle.std.proofs.Common.{◌≡◌, ℕ, ◌-◌, ◌*◌, ap, sym, ◌∙◌, arith}
use Rattle.block.specs.Rounds.{unrounds}
use Rattle.block.specs.Block.{g, subkey}
use Rattle.block.proofs.RoundLaws.{unrounds_two}
use Rattle.block.proofs.Cipher.unrounds.Goals as goal

pub loop-r-preserved : goal.loop-r-preserved
unfolding subkey
loop-r-preserved c =
    let t = c.args.self.now.t in
    let l = c.loop-r in
    unrounds_two (g t.s t.start) (subkey t.k) l.r (l.r - 1) l.c _ _ _ (omega arith) l.invariant
    c.unround.ensures c.unround-c.ensures

pub returns : goal.returns
unfolding unrounds
returns c =
    let t = c.args.self.now.t in
    let none : 2 * c.loop-r.r ≡ 0 = omega arith in
    sym (ap (λ (n : ℕ). unrounds (g t.s t.start) (subkey t.k) n c.loop-r.c) none) ∙ c.loop-r.invariant
