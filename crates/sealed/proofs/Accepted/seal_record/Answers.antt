-- `Accepted::seal_record` meets its contract: 17 blocks are laid out and chained.
use Rattle.std.proofs.Common.{ℕ, ◌/◌, List, length, replicate, ap, ap₂, ◌∙◌}
use Rattle.block.specs.Block.{enciphered}
use Rattle.sealed.specs.Cbc.{cbc}
use Rattle.sealed.specs.Record.{sealed}
use Rattle.sealed.proofs.RecordLaws.{laid-length}
use Rattle.sealed.proofs.Accepted.seal_record.Goals as goal

pub returns : goal.returns
unfolding sealed
returns c =
    let a = c.args in
    let long = ap length c.lay.ensures ∙ laid-length a.bank a.page a.plain.now c.requires.1 in
    c.chain_blocks.ensures
    ∙ ap₂ (λ (n : ℕ) (l : List ℕ). cbc (enciphered a.self.now.t) (replicate 16 0) n l) (ap (λ (n : ℕ). n / 16) long) c.lay.ensures
