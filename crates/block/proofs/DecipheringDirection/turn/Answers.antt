-- `Deciphering::turn` meets its contract: the rounds undone between the two whitenings.
use Rattle.std.proofs.Common.{ap, ◌∙◌}
use Rattle.block.specs.Rounds.{unrounds, keyed, swapped, deciphered_words, whiten, enter}
use Rattle.block.specs.Block.{g, subkey}
use Rattle.block.proofs.DecipheringDirection.turn.Goals as goal

pub returns : goal.returns
unfolding deciphered_words whiten enter
returns c =
    let t = c.args.cipher.now.t in
    let K = subkey t.k in
    let v = c.swapped.ensures ∙ ap swapped c.keyed.ensures in
    c.keyed-2.ensures ∙ ap (keyed K 0) (c.unrounds-v.ensures ∙ ap (unrounds (g t.s t.start) K 16) v)
