-- Laws of lists of bytes and of their xor.
use mathlib.Core.Path.{◌≡◌, refl, ap₂, ◌∙◌}
use mathlib.Core.List.{List, [], ◌∷◌, ◌++◌}
use Prim.Native.Nat.{ℕ, zero, suc, min, ◌+◌, ◌<◌, ◌≤◌}
use native.Mathlib.Omega.{arith}
use lib.Bits.{bit_xor, xor_lt, xor_zero_r}
use lib.Dec.{lit<}
use lib.ListN.{length, take, drop, get_or, replicate, length-append, length-drop, length-replicate}
use lib.Seq.{length-take-le, get_or-drop}
use Rattle.words.proofs.Xor.{xor_cancel}
use Rattle.spans.specs.Bytes.{Bytes, xor_bytes}

-- every element is a byte
abbrev pub AllBytes : List ℕ → Type 0
AllBytes l = (i : ℕ) → get_or l i 0 < 256

pub AllBytes-append : (a b : List ℕ) → AllBytes a → AllBytes b → AllBytes (a ++ b)
AllBytes-append [] b ha hb i = hb i
AllBytes-append (x ∷ a) b ha hb zero = ha 0
AllBytes-append (x ∷ a) b ha hb (suc i) = AllBytes-append a b (λ j. ha (suc j)) hb i

pub AllBytes-take : (n : ℕ) (l : List ℕ) → AllBytes l → AllBytes (take n l)
AllBytes-take zero l h i = lit< tt
AllBytes-take (suc n) [] h i = lit< tt
AllBytes-take (suc n) (x ∷ l) h zero = h 0
AllBytes-take (suc n) (x ∷ l) h (suc i) = AllBytes-take n l (λ j. h (suc j)) i

pub AllBytes-drop : (n : ℕ) (l : List ℕ) → AllBytes l → AllBytes (drop n l)
AllBytes-drop n l h i = rw (get_or-drop n l i) (h (n + i))

pub AllBytes-replicate : (n v : ℕ) → v < 256 → AllBytes (replicate n v)
AllBytes-replicate zero v h i = lit< tt
AllBytes-replicate (suc n) v h zero = h
AllBytes-replicate (suc n) v h (suc i) = AllBytes-replicate n v h i

-- n bytes and m bytes after them
pub Bytes-append : {m n : ℕ} {a b : List ℕ} → Bytes m a → Bytes n b → Bytes (m + n) (a ++ b)
Bytes-append {m} {n} {a} {b} ha hb =
    record { long = length-append a b ∙ ap₂ ◌+◌ ha.long hb.long; byte = AllBytes-append a b ha.byte hb.byte }

-- the first of at least n bytes
pub Bytes-take : (n : ℕ) (l : List ℕ) → n ≤ length l → AllBytes l → Bytes n (take n l)
Bytes-take n l h b = record { long = length-take-le n l h; byte = AllBytes-take n l b }

-- the m bytes after n of them
pub Bytes-drop : (n m : ℕ) (l : List ℕ) → length l ≡ n + m → AllBytes l → Bytes m (drop n l)
Bytes-drop n m l h b = record { long = length-drop n l ∙ omega arith; byte = AllBytes-drop n l b }

pub Bytes-replicate : (n v : ℕ) → v < 256 → Bytes n (replicate n v)
Bytes-replicate n v h = record { long = length-replicate n v; byte = AllBytes-replicate n v h }

pub xor-length : (a b : List ℕ) → length (xor_bytes a b) ≡ min (length a) (length b)
unfolding xor_bytes
xor-length [] b = omega arith
xor-length (x ∷ a) [] = omega arith
xor-length (x ∷ a) (y ∷ b) = omega (arith, xor-length a b)

-- element by element
pub xor_at : (a b : List ℕ) (i : ℕ) → i < length a → i < length b → bit_xor (get_or a i 0) (get_or b i 0) ≡ get_or (xor_bytes a b) i 0
unfolding xor_bytes
xor_at [] b i ha hb = absurd (omega arith)
xor_at (x ∷ a) [] i ha hb = absurd (omega arith)
xor_at (x ∷ a) (y ∷ b) zero ha hb = refl
xor_at (x ∷ a) (y ∷ b) (suc i) ha hb = xor_at a b i (omega arith) (omega arith)

AllBytes-xor_bytes : (a b : List ℕ) → AllBytes a → AllBytes b → AllBytes (xor_bytes a b)
unfolding xor_bytes
AllBytes-xor_bytes [] b ha hb i = lit< tt
AllBytes-xor_bytes (x ∷ a) [] ha hb i = lit< tt
AllBytes-xor_bytes (x ∷ a) (y ∷ b) ha hb zero = xor_lt 8 x y (ha 0) (hb 0)
AllBytes-xor_bytes (x ∷ a) (y ∷ b) ha hb (suc i) = AllBytes-xor_bytes a b (λ j. ha (suc j)) (λ j. hb (suc j)) i

pub Bytes-xor_bytes : {n : ℕ} {a b : List ℕ} → Bytes n a → Bytes n b → Bytes n (xor_bytes a b)
Bytes-xor_bytes {n} {a} {b} ha hb =
    record { long = xor-length a b ∙ omega (arith, ha.long, hb.long); byte = AllBytes-xor_bytes a b ha.byte hb.byte }

-- the second list xored twice leaves the first
pub xor_twice : (a b : List ℕ) → length a ≡ length b → xor_bytes (xor_bytes a b) b ≡ a
unfolding xor_bytes
xor_twice [] b h = refl
xor_twice (x ∷ a) [] h = absurd (omega arith)
xor_twice (x ∷ a) (y ∷ b) h = ap₂ (λ (z : ℕ) (l : List ℕ). z ∷ l) (xor_cancel x y) (xor_twice a b (omega arith))

-- zeros change nothing
pub xor_zeros : (a : List ℕ) (n : ℕ) → length a ≡ n → xor_bytes a (replicate n 0) ≡ a
unfolding xor_bytes
xor_zeros [] n h = refl
xor_zeros (x ∷ a) zero h = absurd (omega arith)
xor_zeros (x ∷ a) (suc n) h = ap₂ (λ (z : ℕ) (l : List ℕ). z ∷ l) (xor_zero_r x) (xor_zeros a n (omega arith))
