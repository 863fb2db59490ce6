-- `host::hf_compare_bank` meets its contract: the report under the key, or a refusal.
use Rattle.std.proofs.Common.{ℕ, length, replicate, ap, ◌∙◌}
use Rattle.twofish.specs.declared.Twofish.{Twofish}
use Rattle.masks.specs.Masks.{masks_of, how_many}
use Rattle.report.specs.Slots.{page_changed}
use Rattle.report.specs.Report.{bank_number, changes_answer}
use Rattle.host.specs.Host.{schedule_of, geometry}
use Rattle.host.proofs.KeyLaws.{told_under, told_refused, refused_by_one}
use Rattle.host.proofs.hf_compare_bank.Goals as goal

pub returns-in-Ok : goal.returns-in-Ok
returns-in-Ok c =
    let a = c.args in
    let G = geometry a.pages a.banks in
    let number : Twofish → ℕ = λ t. bank_number t G (length a.old.now) (length a.new.now) a.bank in
    c.into.ensures ∙ c.compare_bank.ensures
    ∙ told_under a.key.now number c.in-Ok.t c.in-Ok.ensures
    (λ t n. changes_answer n (masks_of (page_changed t G a.old.now a.new.now a.bank)) (how_many (page_changed t G a.old.now a.new.now a.bank) 256))

pub returns-in-Err : goal.returns-in-Err
unfolding changes_answer
returns-in-Err c =
    let a = c.args in
    let G = geometry a.pages a.banks in
    let changed = page_changed (schedule_of a.key.now) G a.old.now a.new.now a.bank in
    let number : Twofish → ℕ = λ t. bank_number t G (length a.old.now) (length a.new.now) a.bank in
    c.from.ensures
    ∙ ap (λ (n : ℕ). record { number = n; changed = 0; masks = replicate 4 0 }) (refused_by_one a.key.now c.in-Err.refusal c.in-Err.ensures)
    ∙ told_refused a.key.now number c.in-Err.refusal c.in-Err.ensures (λ n. changes_answer n (masks_of changed) (how_many changed 256))
