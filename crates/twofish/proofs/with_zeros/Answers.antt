-- `twofish::with_zeros` meets its contract: the key is laid over zeros from the first on, and those after it stay.
use Rattle.twofish.proofs.PaddingLaws.{over_zeros}
use Rattle.twofish.proofs.with_zeros.Goals as goal

pub returns : goal.returns
returns c = over_zeros _ c.args.key.now c.copy_from_slice.ensures.after c.requires
