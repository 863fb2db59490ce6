-- `host::hf_read` meets its contract: the bytes read under the key, or a refusal.
use Rattle.std.proofs.Common.{ℕ, length, ◌∙◌}
use Rattle.twofish.specs.declared.Location.{Location}
use Rattle.twofish.specs.declared.Twofish.{Twofish}
use Rattle.block.specs.Block.{deciphered}
use Rattle.sealed.specs.Image.{seen_at, other_place, access_number, access_answer, read_from}
use Rattle.host.specs.Host.{schedule_of, geometry}
use Rattle.host.proofs.KeyLaws.{answered_under, left_under, answered_refused, left_refused}
use Rattle.host.proofs.hf_read.Goals as goal

pub returns-in-Ok : goal.returns-in-Ok
unfolding access_answer
returns-in-Ok c =
    let a = c.args in
    let place : Twofish → Location = λ t. other_place (seen_at t (geometry a.pages a.banks) a.image.now a.bank a.offset) in
    let number : Twofish → ℕ = λ t. access_number t (geometry a.pages a.banks) a.image.now a.bank a.offset (length a.out.now) in
    record {
      outcome = answered_under a.key.now number c.in-Ok.t c.in-Ok.ensures place 0 c.into.result (c.into.ensures ∙ c.read.ensures.outcome);
      out = left_under a.key.now number c.in-Ok.t c.in-Ok.ensures (λ t. read_from (deciphered t) (geometry a.pages a.banks) a.bank a.offset (length a.out.now) a.image.now) a.out.now c.read.new.out c.read.ensures.out;
    }

pub returns-in-Err : goal.returns-in-Err
returns-in-Err c =
    let a = c.args in
    let place : Twofish → Location = λ t. other_place (seen_at t (geometry a.pages a.banks) a.image.now a.bank a.offset) in
    let number : Twofish → ℕ = λ t. access_number t (geometry a.pages a.banks) a.image.now a.bank a.offset (length a.out.now) in
    record {
      outcome = answered_refused a.key.now number c.in-Err.refusal c.in-Err.ensures (place (schedule_of a.key.now)) 0 c.into-in-Err.result c.into-in-Err.ensures;
      out = left_refused a.key.now number c.in-Err.refusal c.in-Err.ensures _ a.out.now;
    }
