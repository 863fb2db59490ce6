-- `field::by_5b_and_ef` meets its contract: the sums of doublings are the products, at every byte.
use Rattle.std.proofs.Common.{◌≡◌, ℕ, ◌<◌, [], ◌∷◌, ap₂, rules}
use lib.Bits.{bit_xor}
use Rattle.words.proofs.Finite.{same}
use Rattle.field.specs.Field.{product, remainder, mul}
use Rattle.field.specs.Matrix.{mds_poly}
use Rattle.field.proofs.by_5b_and_ef.Goals as goal

-- 02 times a byte
abbrev d : ℕ → ℕ
d = mul mds_poly 2

abbrev both : ℕ → ℕ
both x = bit_xor (bit_xor (bit_xor x (d x)) (d (d (d x)))) (d (d (d (d (d (d x))))))

by_5b : (x : ℕ) → x < 256 → bit_xor (both x) (d (d (d (d x)))) ≡ mul mds_poly x 0x5b
unfolding mul product remainder
by_5b x h = same 256 (λ b. bit_xor (both b) (d (d (d (d b))))) (λ b. mul mds_poly b 0x5b) tt x h

by_ef : (x : ℕ) → x < 256 → bit_xor (bit_xor (bit_xor (both x) (d (d x))) (d (d (d (d (d x)))))) (d (d (d (d (d (d (d x))))))) ≡ mul mds_poly x 0xef
unfolding mul product remainder
by_ef x h =
    same 256 (λ b. bit_xor (bit_xor (bit_xor (both b) (d (d b))) (d (d (d (d (d b)))))) (d (d (d (d (d (d (d b)))))))) (λ b. mul mds_poly b 0xef) tt x h

pub returns : goal.returns
returns c =
    let x = c.args.x in
    rw (c.double-x80.ensures, c.double-x40.ensures, c.double-x20.ensures, c.double-x10.ensures, c.double-x8.ensures, c.double-x4.ensures, c.double-x2.ensures)
    (ap₂ (λ (a b : ℕ). a ∷ b ∷ []) (by_5b x (search rules)) (by_ef x (search rules)))
