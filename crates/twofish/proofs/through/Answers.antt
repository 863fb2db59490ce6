-- `twofish::through` meets its contract, byte by byte.
use Rattle.std.proofs.Common.{refl}
use Rattle.field.specs.Matrix.{entry}
use Rattle.sbox.specs.Q.{qbox, qord}
use Rattle.twofish.proofs.HLaws.{through_law}
use Rattle.twofish.proofs.through.Goals as goal

pub returns : goal.returns
unfolding entry
returns c =
    through_law qbox qord refl refl c.args.z c.args.y _ _ _ _
    c.permuted_at.ensures c.permuted_at-2.ensures c.permuted_at-3.ensures c.permuted_at-4.ensures
