-- Each of q0 and q1 is a permutation of the bytes: the paper says so, and it guards the tables.
use mathlib.Core.Path.{◌≡◌, sym, subst}
use mathlib.Core.Bool.{Bool, true, false}
use Prim.Native.Nat.{ℕ, ◌<◌}
use lib.Dec.{T, eqb, ltb, eqb→eq, ltb→lt}
use borrow.Author.Tests.{eq-eqb}
use Rattle.words.specs.Word.{ror}
use Rattle.words.proofs.Finite.{at₂, at₃}
use Rattle.sbox.specs.Q.{mixed, permuted, qbox, row, q_of, q}

-- b wherever a
abbrev implies : Bool → Bool → Bool
implies true b = b
implies false b = true

modus : (a b : Bool) → T (implies a b) → T a → T b
modus true b t u = t
modus false b t u = absurd u

apart : ℕ → ℕ → ℕ → Bool
apart i x y = implies (eqb (q i x) (q i y)) (eqb x y)

byte : ℕ → ℕ → Bool
byte i x = ltb (q i x) 256

-- a byte goes to a byte
pub q-lt : (i x : ℕ) → i < 2 → x < 256 → q i x < 256
unfolding byte ror mixed permuted qbox row q_of
q-lt i x hi hx = ltb→lt _ _ (at₂ 2 256 byte tt i x hi hx)

-- and no two bytes to one
pub q_injective : (i x y : ℕ) → i < 2 → x < 256 → y < 256 → q i x ≡ q i y → x ≡ y
unfolding apart ror mixed permuted qbox row q_of
q_injective i x y hi hx hy e =
    eqb→eq x y (modus (eqb (q i x) (q i y)) (eqb x y) (at₃ 2 256 256 apart tt i x y hi hx hy) (subst T (sym (eq-eqb (q i x) (q i y) e)) tt))
