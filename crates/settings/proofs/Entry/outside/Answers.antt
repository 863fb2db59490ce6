-- `settings::Entry::outside` meets its contract.
use Rattle.std.proofs.Common.{sym, ap}
use Rattle.settings.specs.Records.{outside}
use Rattle.settings.proofs.Entry.outside.Goals as goal

pub returns-in-Set : goal.returns-in-Set
unfolding outside
returns-in-Set c = ap (outside c.args.before) (sym c.in-Set.is)

pub returns-in-GoBack : goal.returns-in-GoBack
unfolding outside
returns-in-GoBack c = ap (outside c.args.before) (sym c.in-GoBack.is)
