-- `listing::slots` meets its contract: a geometry in range has few slots.
use Rattle.std.proofs.Common.{arith}
use Rattle.sealed.proofs.ImageLaws.{few_records}
use Rattle.listing.proofs.slots.Goals as goal

pub overflow_mul-result : goal.overflow_mul-result
overflow_mul-result c = omega (arith, few_records c.args.geometry c.requires)
