-- `words::byte_of` meets its contract: past the fourth byte nothing is left of a word.
use Rattle.std.proofs.Common.{◌≡◌, ℕ, ◌*◌, ◌%◌, ◌^◌, ◌<◌, ◌≤◌, refl, sym, ap, arith}
use Rattle.std.proofs.Math.Nat.{div-eq_of_lt, lt_of_lt_of_le}
use lib.Pow.{pow_mono}
use Rattle.words.specs.Word.{byte_of}
use Rattle.words.proofs.byte_of.Goals as goal

past : (x y : ℕ) → x < 2 ^ 32 → 4 ≤ y → byte_of x y ≡ 0
unfolding byte_of
past x y h le = ap (λ (q : ℕ). q % 2 ^ 8) (div-eq_of_lt (lt_of_lt_of_le h (pow_mono {i = 32} {j = 8 * y} (omega arith))))

pub returns-then-y-gt3 : goal.returns-then-y-gt3
returns-then-y-gt3 c = sym (past c.args.x c.args.y (omega arith) (omega arith))

pub returns : goal.returns
unfolding byte_of
returns c = refl
