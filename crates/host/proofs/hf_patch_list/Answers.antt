-- `host::hf_patch_list` meets its contract: the list made under the key, or a refusal.
use Rattle.std.proofs.Common.{◌∙◌}
use Rattle.twofish.specs.declared.Twofish.{Twofish}
use Rattle.boxful.specs.Boxful.{Judged, judged, all_patched, all_counted}
use Rattle.host.specs.Host.{geometry}
use Rattle.host.proofs.KeyLaws.{list_under, list_left_under, list_refused, list_left_refused}
use Rattle.host.proofs.hf_patch_list.Goals as goal

pub returns-in-Ok : goal.returns-in-Ok
returns-in-Ok c =
    let a = c.args in
    let comes_to : Twofish → Judged = λ t. judged t (geometry a.pages a.banks) a.image.now a.patches.now a.bytes.now in
    record {
      outcome = list_under a.key.now comes_to c.in-Ok.t c.in-Ok.ensures (all_counted a.patches.now) c.into.result (c.into.ensures ∙ c.patch_all.ensures.outcome);
      image =
          list_left_under a.key.now comes_to c.in-Ok.t c.in-Ok.ensures (λ t. all_patched t (geometry a.pages a.banks) a.bytes.now a.patches.now a.image.now)
          a.image.now c.patch_all.new.image c.patch_all.ensures.image;
    }

pub returns-in-Err : goal.returns-in-Err
returns-in-Err c =
    let a = c.args in
    let comes_to : Twofish → Judged = λ t. judged t (geometry a.pages a.banks) a.image.now a.patches.now a.bytes.now in
    record {
      outcome = list_refused a.key.now comes_to c.in-Err.refusal c.in-Err.ensures (all_counted a.patches.now) c.into-in-Err.result c.into-in-Err.ensures;
      image = list_left_refused a.key.now comes_to c.in-Err.refusal c.in-Err.ensures _ a.image.now;
    }
