-- `listing::write_summary` meets its contract: the pieces of the line, put together.
use Rattle.std.proofs.Common.{append_assoc}
use Rattle.listing.specs.Listing.{summary}
use Rattle.listing.proofs.write_summary.Goals as goal

pub returns : goal.returns
unfolding summary
returns g c = simp append_assoc c.writeln.ensures.bytes
