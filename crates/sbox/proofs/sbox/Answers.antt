-- `sbox::sbox` meets its contract: the two steps of q, from what `entry` and `mix` ensure.
use Rattle.std.proofs.Common.{◌≡◌, ℕ, ◌+◌, ◌*◌, ◌/◌, ◌%◌, ◌<◌, List, bit_and, ◌∙◌, arith, rules}
use lib.Bits.{bit_xor, and_mask, mask_lt, xor_lt}
use Rattle.sbox.specs.Q.{mixed, permuted, row, q_of}
use Rattle.sbox.proofs.sbox.Goals as goal

-- the two steps, as the code takes them
steps :
    (t : List (List (List ℕ))) (i x b₁ a₂ b₂ b₃ a₄ b₄ : ℕ) → b₁ ≡ mixed (x / 16) (bit_and x 15)
    → a₂ ≡ row t (i % 2) 0 (bit_xor (x / 16) (bit_and x 15)) → b₂ ≡ row t (i % 2) 1 b₁ → b₃ ≡ mixed a₂ b₂
    → a₄ ≡ row t (i % 2) 2 (bit_xor a₂ b₂) → b₄ ≡ row t (i % 2) 3 b₃ → b₄ < 16 → b₄ * 16 % 256 + a₄ ≡ q_of t i x
unfolding q_of permuted
steps t i x b₁ a₂ b₂ b₃ a₄ b₄ e₁ e₂ e₃ e₄ e₅ e₆ h =
    let low : bit_and x 15 ≡ x % 16 = and_mask x 4 in
    let sum : b₄ * 16 % 256 + a₄ ≡ 16 * b₄ + a₄ = omega arith in
    sum ∙ cc

pub entry-a2-requires : goal.entry-a2-requires
entry-a2-requires c =
    let x = c.args.x in (omega arith, omega arith, xor_lt 4 (x / 16) (bit_and x 15) (omega arith) (mask_lt x 4))

pub entry-a4-requires : goal.entry-a4-requires
entry-a4-requires c =
    (omega arith, omega arith, xor_lt 4 c.entry-a2.result c.entry-b2.result (search rules) (search rules))

pub returns : goal.returns
returns c =
    steps c.args.t.now c.args.i c.args.x _ _ _ _ _ _ c.mix-b1.ensures.0 c.entry-a2.ensures.0 c.entry-b2.ensures.0
    c.mix-b3.ensures.0 c.entry-a4.ensures.0 c.entry-b4.ensures.0 c.entry-b4.ensures.1
