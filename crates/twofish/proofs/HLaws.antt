-- Laws of h: its steps, taken by words that are there or not.
use mathlib.Core.Path.{◌≡◌, refl, sym, ap, ap₂, ◌∙◌}
use mathlib.Core.Bool.{Bool, true, false}
use mathlib.Core.List.{List, [], ◌∷◌}
use Prim.Native.Nat.{ℕ, suc, ◌+◌, ◌-◌, ◌*◌, ◌≤◌, ◌<◌}
use native.Mathlib.Omega.{arith}
use lib.Dec.{ltb}
use lib.ListN.{get_or, length, take, drop}
use borrow.Author.Tests.{ltb-true, ltb-false}
use Rattle.words.specs.Word.{bytes_of}
use Rattle.std.specs.Prelude.{cond}
use Rattle.spans.specs.Bytes.{xor_bytes}
use Rattle.spans.specs.Parts.{splice}
use Rattle.spans.proofs.BytesLaws.{xor-length}
use Rattle.spans.proofs.PartsLaws.{splice_whole}
use Rattle.field.specs.Matrix.{entry}
use Rattle.sbox.specs.Q.{qbox, qord, q_of}
use Rattle.twofish.specs.Lists.{listed, word_at}
use Rattle.twofish.specs.H.{through, y, h}
use Rattle.twofish.proofs.ListLaws.{listed_at, part_bytes}

module _ (f : ℕ → ℕ) (k X i : ℕ) where
  -- word i is there
  pub y_taken : (v : List ℕ) → i < k → v ≡ y (listed f k) X (suc i) (k - suc i) → xor_bytes (through (3 - i) v) (bytes_of (f i)) ≡ y (listed f k) X i (k - i)
  unfolding y
  y_taken v h e =
      let more : k - i ≡ suc (k - suc i) = omega arith in
      rw more (ap₂ (λ (u : List ℕ) (w : ℕ). xor_bytes (through (3 - i) u) (bytes_of w)) e (sym (listed_at f k i 0 h)))

  -- or not
  y_left : (v : List ℕ) → k ≤ i → v ≡ y (listed f k) X (suc i) (k - suc i) → v ≡ y (listed f k) X i (k - i)
  unfolding y
  y_left v h e =
      let none : k - i ≡ 0 = omega arith in
      let less : k - suc i ≡ 0 = omega arith in
      e ∙ rw (none, less)

-- y_i of a list of k words by their numbers, from y_{i+1}: a step where word i is there, else as it was; no proof cites this now, and it stays
-- since docs/PORT.md names it
pub y_step :
    (f : ℕ → ℕ) (k X i : ℕ) (v r : List ℕ) → v ≡ y (listed f k) X (suc i) (k - suc i)
    → r ≡ cond (ltb i k) (xor_bytes (through (3 - i) v) (bytes_of (f i))) v → r ≡ y (listed f k) X i (k - i)
y_step f k X i v r e s = s ∙ by (ltb i k) refl
  where
    by : (t : Bool) → ltb i k ≡ t → cond t (xor_bytes (through (3 - i) v) (bytes_of (f i))) v ≡ y (listed f k) X i (k - i)
    by true t = y_taken f k X i v (ltb-true i k t) e
    by false t = y_left f k X i v (ltb-false i k t) e

-- ---- what the code computes, four bytes at a time
module _ (t : List (List (List ℕ))) (o : List (List ℕ)) (et : t ≡ qbox) (eo : o ≡ qord) where
  pub through_law :
      (z : ℕ) (v : List ℕ) (a b c d : ℕ) → a ≡ q_of t (get_or (get_or o 0 []) z 0) (get_or v 0 0)
      → b ≡ q_of t (get_or (get_or o 1 []) z 0) (get_or v 1 0) → c ≡ q_of t (get_or (get_or o 2 []) z 0) (get_or v 2 0)
      → d ≡ q_of t (get_or (get_or o 3 []) z 0) (get_or v 3 0) → a ∷ b ∷ c ∷ d ∷ [] ≡ through z v
  unfolding through entry
  through_law z v a b c d ea eb ec ed = cc

through-length : (z : ℕ) (v : List ℕ) → length (through z v) ≡ 4
unfolding through
through-length z v = refl

bytes_of-length : (x : ℕ) → length (bytes_of x) ≡ 4
unfolding bytes_of
bytes_of-length x = refl

-- four bytes through their permutations, and four bytes of the key added
pub part_added :
    (z : ℕ) (v p m : List ℕ) (i n : ℕ) → p ≡ through z v → n ≡ 4 → 4 * i + 4 ≤ length m → ((j : ℕ) → get_or m j 0 < 256)
    → splice 0 (xor_bytes p (take n (drop (4 * i) m))) p ≡ xor_bytes (through z v) (bytes_of (word_at m i))
part_added z v p m i n e f room byte =
    let part : take n (drop (4 * i) m) ≡ bytes_of (word_at m i) = ap (λ (w : ℕ). take w (drop (4 * i) m)) f ∙ part_bytes m i room byte in
    let four : length p ≡ 4 = ap length e ∙ through-length z v in
    rw part
    (splice_whole (xor_bytes p (bytes_of (word_at m i))) p (xor-length p (bytes_of (word_at m i)) ∙ omega (arith, four, bytes_of-length (word_at m i)))
    ∙ ap (λ (q : List ℕ). xor_bytes q (bytes_of (word_at m i))) e)
