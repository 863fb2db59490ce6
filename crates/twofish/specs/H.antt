-- The paper's function h of a word X and a list L = (L_0, .., L_{k-1}) of words.
use Rattle.std.specs.Prelude.{List, [], ◌∷◌, ℕ, zero, suc, ◌-◌, length, get_or}
use Rattle.words.specs.Word.{word_of, bytes_of}
use Rattle.spans.specs.Bytes.{xor_bytes}
use Rattle.field.specs.Matrix.{entry, mds_times}
use Rattle.sbox.specs.Q.{q, qord}

-- byte j through its permutation at step z
abbrev pub permuted_at : ℕ → List ℕ → ℕ → ℕ
permuted_at z v j = q (entry qord j z) (get_or v j 0)

-- four bytes, each through its permutation at step z
unfoldable pub through : ℕ → List ℕ → List ℕ
through z v = permuted_at z v 0 ∷ permuted_at z v 1 ∷ permuted_at z v 2 ∷ permuted_at z v 3 ∷ []

-- y_i = (y_{i,0}, .., y_{i,3}), where n words stand from L_i on: y_k is the bytes of X, and y_i is y_{i+1} through its permutations, plus the bytes of L_i
unfoldable pub y : List ℕ → ℕ → ℕ → ℕ → List ℕ
y L X i zero = bytes_of X
y L X i (suc n) = xor_bytes (through (3 - i) (y L X (suc i) n)) (bytes_of (get_or L i 0))

-- h(X, L): y_0 through the last permutations, times MDS, as a word
unfoldable pub h : ℕ → List ℕ → ℕ
h X L = word_of (mds_times (through 4 (y L X 0 (length L))))
