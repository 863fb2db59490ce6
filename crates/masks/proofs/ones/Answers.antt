-- `masks::ones` meets its contract: the ones of each mask are as many as bits of it are set.
use Rattle.std.proofs.Common.{rules}
use Rattle.masks.proofs.MaskLaws.{ones-set}
use Rattle.masks.proofs.ones.Goals as goal

pub returns : goal.returns
returns c = ones-set c.args.masks (λ j. search rules)
