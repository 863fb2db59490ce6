-- `host::hf_seal` meets its contract: the page sealed under the key, or a refusal.
use Rattle.std.proofs.Common.{ℕ, length, ◌∙◌}
use Rattle.twofish.specs.declared.Twofish.{Twofish}
use Rattle.twofish.specs.Answers.{nowhere}
use Rattle.block.specs.Block.{enciphered}
use Rattle.sealed.specs.Image.{seal_number, sealed_in}
use Rattle.host.specs.Host.{geometry}
use Rattle.host.proofs.KeyLaws.{answered_under, left_under, answered_refused, left_refused}
use Rattle.host.proofs.hf_seal.Goals as goal

pub returns-in-Ok : goal.returns-in-Ok
returns-in-Ok c =
    let a = c.args in
    let number : Twofish → ℕ = λ t. seal_number t (geometry a.pages a.banks) (length a.image.now) a.bank a.page (length a.plain.now) in
    record {
      outcome = answered_under a.key.now number c.in-Ok.t c.in-Ok.ensures (λ t. nowhere) 17 c.into.result (c.into.ensures ∙ c.seal.ensures.outcome);
      image = left_under a.key.now number c.in-Ok.t c.in-Ok.ensures (λ t. sealed_in (enciphered t) (geometry a.pages a.banks) a.bank a.page a.plain.now a.image.now) a.image.now c.seal.new.image c.seal.ensures.image;
    }

pub returns-in-Err : goal.returns-in-Err
returns-in-Err c =
    let a = c.args in
    let number : Twofish → ℕ = λ t. seal_number t (geometry a.pages a.banks) (length a.image.now) a.bank a.page (length a.plain.now) in
    record {
      outcome = answered_refused a.key.now number c.in-Err.refusal c.in-Err.ensures nowhere 17 c.into-in-Err.result c.into-in-Err.ensures;
      image = left_refused a.key.now number c.in-Err.refusal c.in-Err.ensures _ a.image.now;
    }
