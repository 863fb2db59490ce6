-- The rows of a matrix product, one column more at a time, and the columns of MDS as words.
use mathlib.Core.Path.{◌≡◌, sym, ap, ap₂, ◌∙◌}
use mathlib.Core.Bool.{Bool}
use mathlib.Core.List.{List, [], ◌∷◌}
use mathlib.Core.Logic.{⊎_elim}
use Prim.Native.Nat.{ℕ, zero, suc, ◌+◌, ◌*◌, ◌^◌, ◌<◌, ◌≤◌}
use native.Mathlib.Nat.{eq-or-lt_of_le, le_of_suc-le-suc}
use native.Mathlib.Numerals.{add-one}
use native.Mathlib.Omega.{arith}
use lib.Bits.{bit_xor, xor_lt, xor_block, xor_zero_r}
use lib.Dec.{ltb, ltb→lt, lit<, lit≤}
use lib.ListN.{length, get_or, get_or-eq_default}
use Rattle.words.specs.Word.{word_of}
use Rattle.words.proofs.Finite.{same, at₂}
use Rattle.field.specs.Field.{product, remainder, mul}
use Rattle.field.specs.Matrix.{mds_poly, mds, entry, row_times, times, mds_column}
use Rattle.field.proofs.Product.{mul-lt, mul-zero}

-- ---- words of bytes, added byte by byte
byte_xor : (r s a b : ℕ) → r < 256 → s < 256 → bit_xor (r + 2 ^ 8 * a) (s + 2 ^ 8 * b) ≡ bit_xor r s + 2 ^ 8 * bit_xor a b
byte_xor r s a b hr hs =
    let turn : (x y : ℕ) → x * 2 ^ 8 + y ≡ y + 2 ^ 8 * x = λ x y. omega arith in
    ap₂ bit_xor (sym (turn a r)) (sym (turn b s)) ∙ xor_block 8 a b r s hr hs ∙ turn (bit_xor a b) (bit_xor r s)

word_xor :
    (a b c d e f g h : ℕ) → a < 256 → b < 256 → c < 256 → d < 256 → e < 256 → f < 256 → g < 256 → h < 256
    → bit_xor (word_of (a ∷ b ∷ c ∷ d ∷ [])) (word_of (e ∷ f ∷ g ∷ h ∷ []))
    ≡ word_of (bit_xor a e ∷ bit_xor b f ∷ bit_xor c g ∷ bit_xor d h ∷ [])
unfolding word_of
word_xor a b c d e f g h ha hb hc hd he hf hg hh =
    byte_xor a e _ _ ha he
    ∙ ap (λ (x : ℕ). bit_xor a e + 2 ^ 8 * x)
    (byte_xor b f _ _ hb hf
    ∙ ap (λ (x : ℕ). bit_xor b f + 2 ^ 8 * x)
    (byte_xor c g _ _ hc hg ∙ ap (λ (x : ℕ). bit_xor c g + 2 ^ 8 * x) (byte_xor d h 0 0 hd hh)))

-- ---- rows
-- a row's sum is a byte where its entries are
row_lt : (v : ℕ) → 256 ≤ v → v < 512 → (m : List (List ℕ)) (i : ℕ) (y : List ℕ) (n : ℕ) → ((j : ℕ) → j < n → entry m i j < 256) → row_times v m i y n < 256
unfolding row_times
row_lt v lo hi m i y zero small = lit< tt
row_lt v lo hi m i y (suc n) small =
    xor_lt 8 (row_times v m i y n) (mul v (get_or y n 0) (entry m i n))
    (row_lt v lo hi m i y n (λ j h. small j (omega arith)))
    (mul-lt v lo hi (get_or y n 0) (entry m i n) (small n (omega arith)))

-- one column more
pub row_more : (v : ℕ) (m : List (List ℕ)) (i : ℕ) (y : List ℕ) (n z p : ℕ) → z ≡ row_times v m i y n → p ≡ mul v (get_or y n 0) (entry m i n) → bit_xor z p ≡ row_times v m i y (n + 1)
unfolding row_times
row_more v m i y n z p e f = rw add-one (ap₂ bit_xor e f)

-- bytes that are missing count as 0: the sum ends with the vector
pub row_short : (v : ℕ) (m : List (List ℕ)) (i : ℕ) (y : List ℕ) (n : ℕ) → length y ≤ n → row_times v m i y n ≡ row_times v m i y (length y)
unfolding row_times
row_short v m i y zero h = let e : length y ≡ 0 = omega arith in rw e
row_short v m i y (suc n) h =
    ⊎_elim (λ e. rw e)
    (λ l. let past : length y ≤ n = le_of_suc-le-suc l in
    ap (λ (b : ℕ). bit_xor (row_times v m i y n) (mul v b (entry m i n))) (get_or-eq_default y 0 past)
    ∙ ap (bit_xor (row_times v m i y n)) (mul-zero v (entry m i n)) ∙ xor_zero_r _ ∙ row_short v m i y n past)
    (eq-or-lt_of_le h)

-- ---- MDS
small : ℕ → ℕ → Bool
unfolding mds entry
small i j = ltb (entry mds i j) 256

mds_small : (i j : ℕ) → i < 4 → j < 4 → entry mds i j < 256
unfolding small mds entry
mds_small i j hi hj = ltb→lt _ _ (at₂ 4 4 small tt i j hi hj)

-- the columns up to n, as words, make the rows up to n
pub columns_more :
    (y : List ℕ) (n z p : ℕ) → n < 4 → z ≡ word_of (times mds_poly mds n y) → p ≡ mds_column n (get_or y n 0)
    → bit_xor z p ≡ word_of (times mds_poly mds (n + 1) y)
unfolding times mds_column row_times
columns_more y n z p h e f =
    let x : ℕ = get_or y n 0 in
    let row : (i : ℕ) → i < 4 → row_times mds_poly mds i y n < 256 = λ i k. row_lt mds_poly (lit≤ tt) (lit< tt) mds i y n (λ j l. mds_small i j k (omega arith)) in
    let col : (i : ℕ) → i < 4 → mul mds_poly x (entry mds i n) < 256 = λ i k. mul-lt mds_poly (lit≤ tt) (lit< tt) x (entry mds i n) (mds_small i n k h) in
    ap₂ bit_xor e f
    ∙ word_xor _ _ _ _ _ _ _ _ (row 0 (lit< tt)) (row 1 (lit< tt)) (row 2 (lit< tt)) (row 3 (lit< tt)) (col 0 (lit< tt)) (col 1 (lit< tt)) (col 2 (lit< tt)) (col 3 (lit< tt))
    ∙ rw add-one

-- ---- the columns that the code writes out
unfoldable pub written : ℕ → ℕ → ℕ → ℕ → List ℕ
written zero x a b = x ∷ a ∷ b ∷ b ∷ []
written (suc zero) x a b = b ∷ b ∷ a ∷ x ∷ []
written (suc (suc zero)) x a b = a ∷ b ∷ x ∷ b ∷ []
written (suc (suc (suc n))) x a b = a ∷ x ∷ b ∷ a ∷ []

times_one : (x : ℕ) → x < 256 → mul mds_poly x 1 ≡ x
unfolding mul product remainder
times_one = same 256 (λ x. mul mds_poly x 1) (λ x. x) tt

times_zero : (x : ℕ) → x < 256 → mul mds_poly x 0 ≡ 0
unfolding mul product remainder
times_zero = same 256 (λ x. mul mds_poly x 0) (λ x. 0) tt

module _ (x a b : ℕ) (byte : x < 256) (ea : a ≡ mul mds_poly x 0x5b) (eb : b ≡ mul mds_poly x 0xef) where
  pub written_column : (n : ℕ) → n < 4 → word_of (written n x a b) ≡ mds_column n x
  unfolding written mds_column mds entry
  written_column zero h = let o : mul mds_poly x 1 ≡ x = times_one x byte in cc
  written_column (suc zero) h = let o : mul mds_poly x 1 ≡ x = times_one x byte in cc
  written_column (suc (suc zero)) h = let o : mul mds_poly x 1 ≡ x = times_one x byte in cc
  written_column (suc (suc (suc zero))) h = let o : mul mds_poly x 1 ≡ x = times_one x byte in cc
  written_column (suc (suc (suc (suc n)))) h = absurd (omega arith)

pub no_column : (x n : ℕ) → x < 256 → 4 ≤ n → mds_column n x ≡ 0
unfolding mds_column mds entry word_of
no_column x n byte h =
    let none : (a b c d : ℕ) → mul mds_poly x (get_or (a ∷ b ∷ c ∷ d ∷ []) n 0) ≡ 0 =
    λ a b c d. ap (mul mds_poly x) (get_or-eq_default (a ∷ b ∷ c ∷ d ∷ []) 0 h) ∙ times_zero x byte in
    rw (none 0x01 0xef 0x5b 0x5b, none 0x5b 0xef 0xef 0x01, none 0xef 0x5b 0x01 0xef, none 0xef 0x01 0xef 0x5b)
