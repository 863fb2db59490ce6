-- Laws of xor: it is associative, and an operand undoes itself.
use Rattle.std.proofs.Common.{◌≡◌, ℕ, ◌+◌, ◌*◌, ◌/◌, ◌%◌, ◌^◌, ◌<◌, Bool, eqb, sym, refl, ap, ◌∙◌, ap₂, mod-lt, zero-lt-suc, arith, lit<, eqb→eq}
use lib.Arith.{bin_ind}
use lib.Bits.{bit_xor, differ, xor_step, xor_shr, xor_mod, xor_self, xor_zero_r, xor_comm, xor_block}
use Rattle.words.proofs.Finite.{at₃}

digits_agree : ℕ → ℕ → ℕ → Bool
digits_agree x y z = eqb (differ (bit_xor x y) z) (differ x (bit_xor y z))

-- at one binary digit of each
digit_assoc :
    (x y z : ℕ) → differ (bit_xor (x % 2) (y % 2)) (z % 2) ≡ differ (x % 2) (bit_xor (y % 2) (z % 2))
unfolding digits_agree
digit_assoc x y z =
    let two : (n : ℕ) → n % 2 < 2 = λ n. mod-lt n (zero-lt-suc 1) in
    eqb→eq _ _ (at₃ 2 2 2 digits_agree tt (x % 2) (y % 2) (z % 2) (two x) (two y) (two z))

-- the library has this too; it stays with its steps, which docs/PORT.md names
pub xor_assoc : (a b c : ℕ) → bit_xor (bit_xor a b) c ≡ bit_xor a (bit_xor b c)
xor_assoc a =
    bin_ind (λ (n : ℕ). (b c : ℕ) → bit_xor (bit_xor n b) c ≡ bit_xor n (bit_xor b c)) (λ b c. refl)
    (λ n ih b c. xor_step (bit_xor n b) c
    ∙ ap₂ (λ (x y : ℕ). x * 2 + y)
    (ap (λ (x : ℕ). bit_xor x (c / 2)) (xor_shr n b 1) ∙ ih (b / 2) (c / 2)
    ∙ ap (bit_xor (n / 2)) (sym (xor_shr b c 1)))
    (ap (λ (x : ℕ). differ x (c % 2)) (xor_mod n b 1) ∙ digit_assoc n b c
    ∙ ap (differ (n % 2)) (sym (xor_mod b c 1)))
    ∙ sym (xor_step n (bit_xor b c))) a

pub xor_cancel : (a b : ℕ) → bit_xor (bit_xor a b) b ≡ a
xor_cancel a b = xor_assoc a b b ∙ ap (bit_xor a) (xor_self b) ∙ xor_zero_r a

-- four operands, the middle two exchanged
pub xor_exchange : (a b c d : ℕ) → bit_xor (bit_xor a b) (bit_xor c d) ≡ bit_xor (bit_xor a c) (bit_xor b d)
xor_exchange a b c d =
    xor_assoc a b (bit_xor c d)
    ∙ ap (bit_xor a) (sym (xor_assoc b c d) ∙ ap (λ (x : ℕ). bit_xor x d) (xor_comm b c) ∙ xor_assoc c b d)
    ∙ sym (xor_assoc a c (bit_xor b d))

-- doubling goes through
pub xor_double : (a b : ℕ) → 2 * bit_xor a b ≡ bit_xor (2 * a) (2 * b)
xor_double a b =
    let twice : (n : ℕ) → n * 2 ^ 1 + 0 ≡ 2 * n = λ n. omega arith in
    sym (ap₂ bit_xor (sym (twice a)) (sym (twice b)) ∙ xor_block 1 a b 0 0 (lit< tt) (lit< tt) ∙ twice (bit_xor a b))
