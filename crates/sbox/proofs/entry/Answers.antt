-- `sbox::entry` meets its contract: the mask is the remainder by 16.
use Rattle.std.proofs.Common.{ℕ, [], get_or}
use lib.Bits.{and_mask, mask_lt}
use Rattle.sbox.specs.Q.{row}
use Rattle.sbox.proofs.entry.Goals as goal

pub returns : goal.returns
unfolding row
returns c =
    let x : ℕ = get_or (get_or (get_or c.args.t.now c.args.i []) c.args.j []) c.args.n 0 in
    (and_mask x 4, mask_lt x 4)
