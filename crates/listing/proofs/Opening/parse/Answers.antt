-- `Opening::parse` meets its contract: of enough bytes the first two and the 32 after them count.
use Rattle.std.proofs.Common.{◌≡◌, ap, ◌∙◌, take, drop}
use borrow.Author.Tests.{lt-ltb, le-ltb}
use Rattle.twofish.specs.Schedule.{SetUp, refused, set_up}
use Rattle.sealed.proofs.ImageLaws.{in_range-bytes}
use Rattle.listing.specs.Slot.{opening}
use Rattle.listing.proofs.ListingLaws.{schedule-handed}
use Rattle.listing.proofs.Opening.parse.Goals as goal

pub returns-then-bytes-lt-OPENING-clause-says : goal.returns-then-bytes-lt-OPENING-clause-says
unfolding opening
returns-then-bytes-lt-OPENING-clause-says c = simp (lt-ltb _ _ c.if-bytes-lt-OPENING.true)

pub returns-clause-says : goal.returns-clause-says
unfolding opening refused
returns-clause-says c =
    let s : c.unwrap_or-schedule.result ≡ (set_up (take 32 (drop 2 c.args.bytes.now))).schedule =
    c.unwrap_or-schedule.ensures ∙ schedule-handed c.new.result ∙ ap (λ (h : SetUp). h.schedule) c.new.ensures in
    simp (le-ltb _ _ c.if-bytes-lt-OPENING.false, c.from.ensures, c.from-2.ensures, s)

pub returns-clause-in_range : goal.returns-clause-in_range
returns-clause-in_range c =
    simp (c.from.ensures, c.from-2.ensures) (in_range-bytes _ _ (c.type_inv.bytes 0).fits (c.type_inv.bytes 1).fits)
