-- What the calls on a block of 16 bytes give, where they are not refused.
use Rattle.std.proofs.Common.{◌≡◌, ℕ, ◌≤◌, List, length, eqb, cond, refl, sym, ◌∙◌, arith}
use Rattle.spans.specs.Bytes.{xor_bytes}
use Rattle.spans.specs.Parts.{splice}
use Rattle.spans.proofs.BytesLaws.{xor-length}
use Rattle.spans.proofs.PartsLaws.{splice_whole}
use Rattle.twofish.specs.declared.Twofish.{Twofish}
use Rattle.block.specs.Block.{block_number}
use Rattle.block.proofs.NumberLaws.{accepted}

-- two blocks xored are a block
pub xored-length : (l c : List ℕ) → length l ≡ 16 → length c ≡ 16 → length (xor_bytes l c) ≡ 16
xored-length l c hl hc = xor-length l c ∙ omega (arith, hl, hc)

pub xored_whole : (l c : List ℕ) → length l ≡ 16 → length c ≡ 16 → splice 0 (xor_bytes l c) l ≡ xor_bytes l c
xored_whole l c hl hc = splice_whole (xor_bytes l c) l (xored-length l c hl hc ∙ sym hl)

-- a block direction that is taken leaves what it makes
pub taken_block : (t : Twofish) (l x : List ℕ) → t.start ≤ 2 → length l ≡ 16 → cond (eqb (block_number t l) 0) x l ≡ x
taken_block t l x h n = sym (accepted t l x x h n refl).1
