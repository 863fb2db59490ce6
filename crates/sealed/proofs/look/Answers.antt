-- `sealed::look` meets its contract: a schedule and a length that are taken, and the look at the first block.
use Rattle.std.proofs.Common.{sym, ◌∙◌}
use borrow.Author.Tests.{le-leb, lt-leb, eq-eqb, ne_eqb}
use Rattle.sealed.specs.Record.{whose_answer}
use Rattle.sealed.proofs.look.Goals as goal
use Rattle.sealed.proofs.look.Goals.{then-t-gt2-via-then-t-gt2, then-t-gt2-via-else-t-gt2+then-bytes-ne-RECORD}

pub returns-then-t-gt2 : goal.returns-then-t-gt2
unfolding whose_answer
returns-then-t-gt2 c =
    elim c.then-t-gt2.branch [
      | then-t-gt2-via-then-t-gt2 v ↦ simp (lt-leb _ _ v.if-t-gt2.true)
      | then-t-gt2-via-else-t-gt2+then-bytes-ne-RECORD v ↦ simp (le-leb _ _ v.if-t-gt2.false, ne_eqb _ _ v.if-bytes-ne-RECORD.true)
    ]

pub returns : goal.returns
unfolding whose_answer
returns c = c.look.ensures ∙ sym (simp (le-leb _ _ c.if-t-gt2.false, eq-eqb _ _ c.if-bytes-ne-RECORD.false))
