-- `host::hf_patch` meets its contract: the bytes patched under the key, or a refusal.
use Rattle.std.proofs.Common.{ℕ, length, ◌∙◌}
use Rattle.twofish.specs.declared.Location.{Location}
use Rattle.twofish.specs.declared.Twofish.{Twofish}
use Rattle.block.specs.Block.{enciphered, deciphered}
use Rattle.sealed.specs.Image.{seen_at, other_place, access_number, access_answer, patch_count, patched_in}
use Rattle.host.specs.Host.{schedule_of, geometry}
use Rattle.host.proofs.KeyLaws.{answered_under, left_under, answered_refused, left_refused}
use Rattle.host.proofs.hf_patch.Goals as goal

pub returns-in-Ok : goal.returns-in-Ok
unfolding access_answer
returns-in-Ok c =
    let a = c.args in
    let place : Twofish → Location = λ t. other_place (seen_at t (geometry a.pages a.banks) a.image.now a.bank a.offset) in
    let number : Twofish → ℕ = λ t. access_number t (geometry a.pages a.banks) a.image.now a.bank a.offset (length a.bytes.now) in
    record {
      outcome = answered_under a.key.now number c.in-Ok.t c.in-Ok.ensures place (patch_count a.offset) c.into.result (c.into.ensures ∙ c.patch.ensures.outcome);
      image = left_under a.key.now number c.in-Ok.t c.in-Ok.ensures (λ t. patched_in (enciphered t) (deciphered t) (geometry a.pages a.banks) a.bank a.offset a.bytes.now a.image.now) a.image.now c.patch.new.image c.patch.ensures.image;
    }

pub returns-in-Err : goal.returns-in-Err
returns-in-Err c =
    let a = c.args in
    let place : Twofish → Location = λ t. other_place (seen_at t (geometry a.pages a.banks) a.image.now a.bank a.offset) in
    let number : Twofish → ℕ = λ t. access_number t (geometry a.pages a.banks) a.image.now a.bank a.offset (length a.bytes.now) in
    record {
      outcome = answered_refused a.key.now number c.in-Err.refusal c.in-Err.ensures (place (schedule_of a.key.now)) (patch_count a.offset) c.into-in-Err.result c.into-in-Err.ensures;
      image = left_refused a.key.now number c.in-Err.refusal c.in-Err.ensures _ a.image.now;
    }
