-- The paper's two matrices of field bytes, and their products with a vector of bytes.
use Rattle.std.specs.Prelude.{ℕ, zero, suc, List, [], ◌∷◌, get_or}
use Rattle.std.specs.Int.Bits.{bit_xor}
use Rattle.words.specs.Word.{word_of}
use Rattle.field.specs.Field.{mul}

-- v(x) = x^8 + x^6 + x^5 + x^3 + 1, the polynomial of MDS
abbrev pub mds_poly : ℕ
mds_poly = 0x169

-- w(x) = x^8 + x^6 + x^3 + x^2 + 1, the polynomial of RS
abbrev pub rs_poly : ℕ
rs_poly = 0x14d

-- the rows of MDS
unfoldable pub mds : List (List ℕ)
mds =
    (0x01 ∷ 0xef ∷ 0x5b ∷ 0x5b ∷ [])
    ∷ (0x5b ∷ 0xef ∷ 0xef ∷ 0x01 ∷ [])
    ∷ (0xef ∷ 0x5b ∷ 0x01 ∷ 0xef ∷ [])
    ∷ (0xef ∷ 0x01 ∷ 0xef ∷ 0x5b ∷ [])
    ∷ []

-- the rows of RS
unfoldable pub rs : List (List ℕ)
rs =
    (0x01 ∷ 0xa4 ∷ 0x55 ∷ 0x87 ∷ 0x5a ∷ 0x58 ∷ 0xdb ∷ 0x9e ∷ [])
    ∷ (0xa4 ∷ 0x56 ∷ 0x82 ∷ 0xf3 ∷ 0x1e ∷ 0xc6 ∷ 0x68 ∷ 0xe5 ∷ [])
    ∷ (0x02 ∷ 0xa1 ∷ 0xfc ∷ 0xc1 ∷ 0x47 ∷ 0xae ∷ 0x3d ∷ 0x19 ∷ [])
    ∷ (0xa4 ∷ 0x55 ∷ 0x87 ∷ 0x5a ∷ 0x58 ∷ 0xdb ∷ 0x9e ∷ 0x03 ∷ [])
    ∷ []

-- the entry of a matrix in row i and column j
unfoldable pub entry : List (List ℕ) → ℕ → ℕ → ℕ
entry m i j = get_or (get_or m i []) j 0

-- row i of a matrix times the first n bytes of a vector: y0 mi0 + y1 mi1 + .. modulo v
unfoldable pub row_times : ℕ → List (List ℕ) → ℕ → List ℕ → ℕ → ℕ
row_times v m i y zero = 0
row_times v m i y (suc n) = bit_xor (row_times v m i y n) (mul v (get_or y n 0) (entry m i n))

-- four rows of a matrix times a vector of n bytes
unfoldable pub times : ℕ → List (List ℕ) → ℕ → List ℕ → List ℕ
times v m n y = row_times v m 0 y n ∷ row_times v m 1 y n ∷ row_times v m 2 y n ∷ row_times v m 3 y n ∷ []

-- MDS times four bytes, and RS times eight
abbrev pub mds_times : List ℕ → List ℕ
mds_times = times mds_poly mds 4

abbrev pub rs_times : List ℕ → List ℕ
rs_times = times rs_poly rs 8

-- column c of MDS times a byte, as a word; a matrix has zeros beyond its columns
unfoldable pub mds_column : ℕ → ℕ → ℕ
mds_column c x =
    word_of
    (mul mds_poly x (entry mds 0 c) ∷ mul mds_poly x (entry mds 1 c) ∷ mul mds_poly x (entry mds 2 c) ∷ mul mds_poly x (entry mds 3 c) ∷ [])
