-- h over the S words, one byte of the word at a time: the paper's steps in the order in which the code takes them.
use mathlib.Core.Path.{◌≡◌, refl, sym, ap, ap₂, ◌∙◌}
use mathlib.Core.List.{List, []}
use Prim.Native.Nat.{ℕ, zero, suc, ◌+◌, ◌-◌, ◌*◌, ◌<◌}
use native.Mathlib.Omega.{arith}
use lib.Bits.{bit_xor}
use lib.ListN.{get_or}
use Rattle.words.specs.Word.{byte_of, bytes_of}
use Rattle.spans.specs.Bytes.{xor_bytes}
use Rattle.field.specs.Matrix.{entry}
use Rattle.sbox.specs.Q.{q, q_of, qbox, qord}
use Rattle.twofish.specs.Lists.{word_at}
use Rattle.twofish.specs.H.{permuted_at, through, y}
use Rattle.twofish.proofs.ListLaws.{listed_at, bytes_at}
use Rattle.block.specs.Block.{s_list, s_words}

-- what holds at each of four bytes
four : (P : ℕ → Type 0) → P 0 → P 1 → P 2 → P 3 → (j : ℕ) → j < 4 → P j
four P a b c d zero h = a
four P a b c d (suc zero) h = b
four P a b c d (suc (suc zero)) h = c
four P a b c d (suc (suc (suc zero))) h = d
four P a b c d (suc (suc (suc (suc j)))) h = absurd (omega arith)

pub through_at : (z : ℕ) (v : List ℕ) (j : ℕ) → j < 4 → get_or (through z v) j 0 ≡ permuted_at z v j
unfolding through
through_at z v = four (λ j. get_or (through z v) j 0 ≡ permuted_at z v j) refl refl refl refl

bytes_of_at : (X j : ℕ) → j < 4 → get_or (bytes_of X) j 0 ≡ byte_of X j
unfolding bytes_of
bytes_of_at X = four (λ j. get_or (bytes_of X) j 0 ≡ byte_of X j) refl refl refl refl

-- byte j of a word in a list of bytes
byte_at : (s : List ℕ) (w : ℕ) → ((i : ℕ) → get_or s i 0 < 256) → (j : ℕ) → j < 4 → byte_of (word_at s w) j ≡ get_or s (4 * w + j) 0
byte_at s w byte =
    let e = bytes_at s w byte in
    let is : (j : ℕ) → j < 4 → byte_of (word_at s w) j ≡ get_or (bytes_of (word_at s w)) j 0 = λ j h. sym (bytes_of_at (word_at s w) j h) in
    let z : 4 * w + 0 ≡ 4 * w = omega arith in
    four (λ j. byte_of (word_at s w) j ≡ get_or s (4 * w + j) 0)
    (is 0 (omega arith) ∙ ap (λ (l : List ℕ). get_or l 0 0) e ∙ ap (λ (i : ℕ). get_or s i 0) (sym z))
    (is 1 (omega arith) ∙ ap (λ (l : List ℕ). get_or l 1 0) e)
    (is 2 (omega arith) ∙ ap (λ (l : List ℕ). get_or l 2 0) e)
    (is 3 (omega arith) ∙ ap (λ (l : List ℕ). get_or l 3 0) e)

-- byte j of y_i
y_at :
    (L : List ℕ) (X i n j : ℕ) → j < 4
    → get_or (y L X i (suc n)) j 0 ≡ bit_xor (permuted_at (3 - i) (y L X (suc i) n) j) (byte_of (get_or L i 0) j)
unfolding y through xor_bytes bytes_of
y_at L X i n = four (λ j. get_or (y L X i (suc n)) j 0 ≡ bit_xor (permuted_at (3 - i) (y L X (suc i) n) j) (byte_of (get_or L i 0) j)) refl refl refl refl

-- ---- the code's steps z, from start + 1 to 4: step z adds the bytes of word 4 - z of S, which is word z - start - 1 in key order
record Step (start z : ℕ) : Type 0 where
  within : 4 - z < s_words start
  word : s_words start - 1 - (4 - z) ≡ z - start - 1
  above : suc (4 - z) ≡ 5 - z
  before : 3 - (4 - z) ≡ z - 1
  after : 5 - (z + 1) ≡ 4 - z
  here : z + 1 - 1 ≡ z
  count : z - start ≡ suc (z - 1 - start)

steps : (start z : ℕ) → start < z → z < 5 → Step start z
steps start z lo hi =
    record {
      within = omega arith;
      word = omega arith;
      above = omega arith;
      before = omega arith;
      after = omega arith;
      here = omega arith;
      count = omega arith;
    }

-- byte j of X over the S bytes s, by any tables equal to the paper's
module _ (t : List (List (List ℕ))) (o : List (List ℕ)) (et : t ≡ qbox) (eo : o ≡ qord) (s : List ℕ) (start X j : ℕ) (h : j < 4) where
  -- v is the byte before step z
  abbrev pub Before : ℕ → ℕ → Type 0
  Before z v = v ≡ permuted_at (z - 1) (y (s_list s start) X (5 - z) (z - 1 - start)) j

  looked_up : (z x v : ℕ) → v ≡ q_of t (get_or (get_or o j []) z 0) x → v ≡ q (entry qord j z) x
  unfolding entry
  looked_up z x v e = cc

  pub first : (v x : ℕ) → x ≡ byte_of X j → v ≡ q_of t (get_or (get_or o j []) start 0) x → Before (start + 1) v
  unfolding y
  first v x ex ev =
      let here : start + 1 - 1 ≡ start = omega arith in
      let none : start - start ≡ 0 = omega arith in
      looked_up start x v ev ∙ rw (here, none) (ap (q (entry qord j start)) (ex ∙ sym (bytes_of_at X j h)))

  pub next :
      (z v b r : ℕ) → start < z → z < 5 → Before z v → ((i : ℕ) → get_or s i 0 < 256) → b ≡ get_or s (4 * (z - start - 1) + j) 0
      → r ≡ q_of t (get_or (get_or o j []) z 0) (bit_xor v b) → Before (z + 1) r
  unfolding s_list
  next z v b r lo hi e byte eb er =
      let n : Step start z = steps start z lo hi in
      let key : byte_of (get_or (s_list s start) (4 - z) 0) j ≡ b =
      ap (λ (x : ℕ). byte_of x j)
      (listed_at (λ i. word_at s (s_words start - 1 - i)) (s_words start) (4 - z) 0 n.within ∙ ap (word_at s) n.word)
      ∙ byte_at s (z - start - 1) byte j h ∙ sym eb in
      let sum : get_or (y (s_list s start) X (4 - z) (suc (z - 1 - start))) j 0 ≡ bit_xor v b =
      y_at (s_list s start) X (4 - z) (z - 1 - start) j h
      ∙ ap₂ bit_xor (ap₂ (λ (m i : ℕ). permuted_at m (y (s_list s start) X i (z - 1 - start)) j) n.before n.above ∙ sym e) key in
      looked_up z (bit_xor v b) r er
      ∙ rw (n.here, n.after, n.count) (ap (q (entry qord j z)) (sym sum))
