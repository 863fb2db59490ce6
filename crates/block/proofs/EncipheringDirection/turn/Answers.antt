-- `Enciphering::turn` meets its contract: the rounds between the two whitenings.
use Rattle.std.proofs.Common.{ap, ◌∙◌}
use Rattle.block.specs.Rounds.{rounds, keyed, swapped, enciphered_words, whiten, leave}
use Rattle.block.specs.Block.{g, subkey}
use Rattle.block.proofs.EncipheringDirection.turn.Goals as goal

pub returns : goal.returns
unfolding enciphered_words whiten leave
returns c =
    let t = c.args.cipher.now.t in
    let K = subkey t.k in
    let v = c.rounds-v.ensures ∙ ap (rounds (g t.s t.start) K 16) c.keyed.ensures in
    c.keyed-2.ensures ∙ ap (keyed K 4) (c.swapped.ensures ∙ ap swapped v)
