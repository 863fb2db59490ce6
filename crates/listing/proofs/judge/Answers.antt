-- `listing::judge` meets its contract: the length first, and then the look.
use Rattle.std.proofs.Common.{sym, ap, ◌∙◌}
use borrow.Author.Tests.{lt-ltb, le-ltb}
use Rattle.listing.specs.Slot.{verdict, verdict_of}
use Rattle.listing.proofs.judge.Goals as goal

pub returns-then-bytes-lt-RECORD : goal.returns-then-bytes-lt-RECORD
unfolding verdict
returns-then-bytes-lt-RECORD c = simp (lt-ltb _ _ c.if-bytes-lt-RECORD.true)

pub returns-in-Own : goal.returns-in-Own
unfolding verdict
returns-in-Own c = ap verdict_of c.in-Own.ensures ∙ sym (simp (le-ltb _ _ c.if-bytes-lt-RECORD.false))

pub returns-in-Other : goal.returns-in-Other
unfolding verdict
returns-in-Other c = ap verdict_of c.in-Other.ensures ∙ sym (simp (le-ltb _ _ c.if-bytes-lt-RECORD.false))

pub returns-in-NoPlace : goal.returns-in-NoPlace
unfolding verdict
returns-in-NoPlace c = ap verdict_of c.in-NoPlace.ensures ∙ sym (simp (le-ltb _ _ c.if-bytes-lt-RECORD.false))
