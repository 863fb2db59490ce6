-- `settings::Entry::parse` meets its contract: by the kind.
use Rattle.std.proofs.Common.{ℕ, ap, ap₂, ◌∙◌}
use borrow.Author.Tests.{eq-eqb, ne_eqb}
use Rattle.words.specs.Word.{word_of}
use Rattle.settings.specs.declared.Entry.TheVariants.{Set, GoBack}
use Rattle.settings.specs.Records.{said}
use Rattle.settings.proofs.RecordLaws.{last_four}
use Rattle.settings.proofs.Entry.parse.Goals as goal

pub returns-then-bytes-eq0 : goal.returns-then-bytes-eq0
unfolding said
returns-then-bytes-eq0 c =
    let v = c.from_le_bytes-value.ensures ∙ ap word_of (last_four c.args.bytes.now c.requires) in
    rw (eq-eqb _ _ c.if-bytes-eq0.true) (ap₂ (λ (s x : ℕ). Set s x) c.into.ensures v)

pub returns-else-bytes-eq0 : goal.returns-else-bytes-eq0
unfolding said
returns-else-bytes-eq0 c =
    let v = c.from_le_bytes-value.ensures ∙ ap word_of (last_four c.args.bytes.now c.requires) in
    rw (ne_eqb _ _ c.if-bytes-eq0.false) (ap (λ (x : ℕ). GoBack x) v)
