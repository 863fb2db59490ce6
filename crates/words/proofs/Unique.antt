-- Each public function's promise admits one outcome.
use Rattle.std.proofs.Common.{sym, ◌∙◌}
use Rattle.words.proofs.Outcome.{OneResult}
use Rattle.words.proofs.ror4.Reads as ror4
use Rattle.words.proofs.times8.Reads as times8
use Rattle.words.proofs.rotate_left.Reads as rotate_left
use Rattle.words.proofs.rotate_right.Reads as rotate_right
use Rattle.words.proofs.wrapping_add.Reads as wrapping_add
use Rattle.words.proofs.byte_of.Reads as byte_of
use Rattle.words.proofs.from_le_bytes.Reads as from_le_bytes
use Rattle.words.proofs.to_le_bytes.Reads as to_le_bytes

pub ror4_one : OneResult ror4.Post
ror4_one κ a r r' s s' p p' = p ∙ sym p'

pub times8_one : OneResult times8.Post
times8_one κ a r r' s s' p p' = p ∙ sym p'

pub rotate_left_one : OneResult rotate_left.Post
rotate_left_one κ a r r' s s' p p' = p ∙ sym p'

pub rotate_right_one : OneResult rotate_right.Post
rotate_right_one κ a r r' s s' p p' = p ∙ sym p'

pub wrapping_add_one : OneResult wrapping_add.Post
wrapping_add_one κ a r r' s s' p p' = p ∙ sym p'

pub byte_of_one : OneResult byte_of.Post
byte_of_one κ a r r' s s' p p' = p ∙ sym p'

pub from_le_bytes_one : OneResult from_le_bytes.Post
from_le_bytes_one κ a r r' s s' p p' = p ∙ sym p'

pub to_le_bytes_one : OneResult to_le_bytes.Post
to_le_bytes_one κ a r r' s s' p p' = p ∙ sym p'
