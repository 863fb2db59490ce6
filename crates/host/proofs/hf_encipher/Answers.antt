-- `host::hf_encipher` meets its contract: the block turned under the key, or a refusal.
use Rattle.std.proofs.Common.{ℕ, ◌∙◌}
use Rattle.spans.specs.Refusals.{leaves}
use Rattle.twofish.specs.declared.Twofish.{Twofish}
use Rattle.twofish.specs.Answers.{nowhere}
use Rattle.block.specs.Block.{block_number, enciphered}
use Rattle.host.proofs.KeyLaws.{answered_under, left_under, answered_refused, left_refused}
use Rattle.host.proofs.hf_encipher.Goals as goal

pub returns-in-Ok : goal.returns-in-Ok
unfolding leaves
returns-in-Ok c =
    let a = c.args in
    let number : Twofish → ℕ = λ t. block_number t a.block.now in
    record {
      outcome = answered_under a.key.now number c.in-Ok.t c.in-Ok.ensures (λ t. nowhere) 0 c.into.result (c.into.ensures ∙ c.encipher.ensures.outcome);
      block = left_under a.key.now number c.in-Ok.t c.in-Ok.ensures (λ t. enciphered t a.block.now) a.block.now c.encipher.new.block c.encipher.ensures.block;
    }

pub returns-in-Err : goal.returns-in-Err
returns-in-Err c =
    let a = c.args in
    let number : Twofish → ℕ = λ t. block_number t a.block.now in
    record {
      outcome = answered_refused a.key.now number c.in-Err.refusal c.in-Err.ensures nowhere 0 c.into-in-Err.result c.into-in-Err.ensures;
      block = left_refused a.key.now number c.in-Err.refusal c.in-Err.ensures _ a.block.now;
    }
