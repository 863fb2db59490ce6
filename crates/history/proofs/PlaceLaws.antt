-- A patch or a read that is not refused before its look at a record: its place is there.
use Rattle.std.proofs.Common.{◌≡◌, ℕ, refl, sym}
use Rattle.spans.specs.Refusals.{given}
use Rattle.twofish.specs.declared.Twofish.{Twofish}
use Rattle.sealed.specs.declared.Geometry.{Geometry}
use Rattle.sealed.specs.Image.{image_length}
use Rattle.sealed.proofs.AccessLaws.{Opens, opens}
use Rattle.history.specs.Calls.{before_look}

pub reaches :
    (t : Twofish) (G : Geometry) (bank offset n : ℕ) → given (before_look t G bank offset n) ≡ 0 → Opens t G (image_length G) bank offset n
unfolding before_look
reaches t G bank offset n e = opens refl refl (sym e)
