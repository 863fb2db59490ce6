-- `Geometry::record_start` meets its contract: a record of a geometry in range begins within what a number holds.
use Rattle.std.proofs.Common.{refl, arith}
use Rattle.sealed.specs.Image.{slot, image_length}
use Rattle.sealed.proofs.ImageLaws.{few_records, slot-room, place}
use Rattle.sealed.proofs.Geometry.record_start.Goals as goal

pub overflow_mul-result-2 : goal.overflow_mul-result-2
unfolding slot image_length
overflow_mul-result-2 c =
    omega (arith, few_records c.args.self c.requires.0, slot-room (place c.requires.0 c.requires.1))

pub returns : goal.returns
unfolding slot
returns c = refl
