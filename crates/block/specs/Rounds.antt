-- The paper's sixteen rounds with their whitening, over any function g of words and any subkeys K.
use Rattle.std.specs.Prelude.{ℕ, zero, suc, ◌+◌, ◌*◌, ◌%◌, ◌^◌}
use Rattle.std.specs.Int.Bits.{bit_xor}
use Rattle.words.specs.Word.{rol, ror}
use Rattle.block.specs.declared.Words.{Words}

-- F0 = (T0 + T1 + K_{2r+8}) mod 2^32 and F1 = (T0 + 2 T1 + K_{2r+9}) mod 2^32, with T0 = g(R0) and T1 = g(ROL(R1, 8)), k being the subkey
unfoldable pub f₀ : (ℕ → ℕ) → ℕ → ℕ → ℕ → ℕ
f₀ g k R₀ R₁ = (g R₀ + g (rol 32 8 R₁) + k) % 2 ^ 32

unfoldable pub f₁ : (ℕ → ℕ) → ℕ → ℕ → ℕ → ℕ
f₁ g k R₀ R₁ = (g R₀ + 2 * g (rol 32 8 R₁) + k) % 2 ^ 32

-- a round with its two subkeys: the next words are ROR(R2 ⊕ F0, 1), ROL(R3, 1) ⊕ F1, R0, R1
unfoldable pub round : (ℕ → ℕ) → ℕ → ℕ → Words → Words
round g k₀ k₁ R =
    record {
      a = ror 32 1 (bit_xor R.c (f₀ g k₀ R.a R.b));
      b = bit_xor (rol 32 1 R.d) (f₁ g k₁ R.a R.b);
      c = R.a;
      d = R.b;
    }

-- a round undone
unfoldable pub unround : (ℕ → ℕ) → ℕ → ℕ → Words → Words
unround g k₀ k₁ R =
    record {
      a = R.c;
      b = R.d;
      c = bit_xor (rol 32 1 R.a) (f₀ g k₀ R.c R.d);
      d = ror 32 1 (bit_xor R.b (f₁ g k₁ R.c R.d));
    }

-- rounds 0 to n - 1
unfoldable pub rounds : (ℕ → ℕ) → (ℕ → ℕ) → ℕ → Words → Words
rounds g K zero R = R
rounds g K (suc r) R = round g (K (2 * r + 8)) (K (2 * r + 9)) (rounds g K r R)

-- rounds n - 1 to 0 undone
unfoldable pub unrounds : (ℕ → ℕ) → (ℕ → ℕ) → ℕ → Words → Words
unrounds g K zero R = R
unrounds g K (suc r) R = unrounds g K r (unround g (K (2 * r + 8)) (K (2 * r + 9)) R)

-- K_i to K_{i+3} added to four words
abbrev pub keyed : (ℕ → ℕ) → ℕ → Words → Words
keyed K i R =
    record { a = bit_xor R.a (K i); b = bit_xor R.b (K (i + 1)); c = bit_xor R.c (K (i + 2)); d = bit_xor R.d (K (i + 3)) }

-- the halves of four words exchanged
abbrev pub swapped : Words → Words
swapped R = record { a = R.c; b = R.d; c = R.a; d = R.b }

-- input whitening: R_i = P_i ⊕ K_i
unfoldable pub whiten : (ℕ → ℕ) → Words → Words
whiten K P = keyed K 0 P

-- the last swap undone, and output whitening: C_i = R_{(i+2) mod 4} ⊕ K_{i+4}
unfoldable pub leave : (ℕ → ℕ) → Words → Words
leave K R = keyed K 4 (swapped R)

-- the same undone
unfoldable pub enter : (ℕ → ℕ) → Words → Words
enter K C = swapped (keyed K 4 C)

-- the four words of a block enciphered, and deciphered
unfoldable pub enciphered_words : (ℕ → ℕ) → (ℕ → ℕ) → Words → Words
enciphered_words g K P = leave K (rounds g K 16 (whiten K P))

unfoldable pub deciphered_words : (ℕ → ℕ) → (ℕ → ℕ) → Words → Words
deciphered_words g K C = whiten K (unrounds g K 16 (enter K C))
