-- `words::ror4` meets its contract: the shifts and masks are the rotation at each of the 256 bytes.
use Rattle.std.proofs.Common.{ℕ, ◌*◌, ◌/◌, ◌%◌, ◌^◌, bit_and, bit_or}
use Rattle.words.specs.Word.{ror}
use Rattle.words.proofs.Finite.{same}
use Rattle.words.proofs.ror4.Goals as goal

-- what the code computes
abbrev code : ℕ → ℕ
code b = bit_and (bit_or (bit_and b 15 * 2 ^ 3 % 2 ^ 8) (bit_and b 15 / 2 ^ 1)) 15

pub returns : goal.returns
unfolding ror
returns c = same 256 code (λ b. ror 4 1 (b % 16)) tt c.args.b c.ranges.b.fits
