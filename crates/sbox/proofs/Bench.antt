-- The bench values that document 01 marks to be proved, as one computed table under one claim.
use Rattle.std.specs.Prelude.{◌≡◌, refl, [], ◌∷◌, ◌++◌}
use Rattle.words.specs.Word.{ror, word_of}
use Rattle.field.specs.Field.{product, remainder, mul}
use Rattle.field.specs.Matrix.{mds_poly, rs_poly, mds, rs, entry, row_times, times, rs_times, mds_column}
use Rattle.sbox.specs.Q.{mixed, permuted, qbox, row, q_of, q}

pub bench :
    (q 0 0x00 ∷ q 0 0x01 ∷ q 0 0xff ∷ q 1 0x00 ∷ q 1 0x01 ∷ q 1 0xff ∷ [])
    ++ (mul mds_poly 0x02 0x80 ∷ mul rs_poly 0x02 0x80 ∷ mul mds_poly 0x02 0xef ∷ [])
    ++ (mds_column 0 0x01 ∷ mds_column 1 0x01 ∷ mds_column 2 0x01 ∷ mds_column 3 0x01 ∷ [])
    ++ rs_times (0x01 ∷ 0 ∷ 0 ∷ 0 ∷ 0 ∷ 0 ∷ 0 ∷ 0 ∷ [])
    ++ rs_times (0 ∷ 0 ∷ 0 ∷ 0 ∷ 0 ∷ 0 ∷ 0 ∷ 0x01 ∷ [])
    ≡ (0xa9 ∷ 0x67 ∷ 0xe0 ∷ 0x75 ∷ 0xf3 ∷ 0x91 ∷ [])
    ++ (0x69 ∷ 0x4d ∷ 0xb7 ∷ [])
    ++ (0xefef5b01 ∷ 0x015befef ∷ 0xef01ef5b ∷ 0x5bef015b ∷ [])
    ++ (0x01 ∷ 0xa4 ∷ 0x02 ∷ 0xa4 ∷ [])
    ++ (0x9e ∷ 0xe5 ∷ 0x19 ∷ 0x03 ∷ [])
unfolding ror word_of product remainder mul mds rs entry row_times times mds_column mixed permuted qbox row q_of
bench = refl
