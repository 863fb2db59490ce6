-- The two directions undo each other: a round and a round undone, the sixteen rounds, whitening, the words of a block, a block.
use Rattle.std.proofs.Common.{◌≡◌, ℕ, zero, suc, ◌+◌, ◌^◌, ◌<◌, refl, ap, ◌∙◌, arith, lit≤}
use lib.Bits.{bit_xor, xor_lt}
use Rattle.words.specs.Word.{rol, ror}
use Rattle.words.proofs.Xor.{xor_cancel}
use Rattle.words.proofs.Rotate.{rol-ror, ror-rol, rol-lt, ror-lt}
use Rattle.block.specs.declared.Words.{Words}
use Rattle.block.specs.Rounds.{f₀, f₁, round, unround, rounds, unrounds, keyed, swapped, whiten, leave, enter, enciphered_words, deciphered_words}

-- each of the four is a word
pub record AreWords (w : Words) : Type 0 where
  pub a : w.a < 2 ^ 32
  pub b : w.b < 2 ^ 32
  pub c : w.c < 2 ^ 32
  pub d : w.d < 2 ^ 32

module _ (g : ℕ → ℕ) where
  f₀-lt : (k R₀ R₁ : ℕ) → f₀ g k R₀ R₁ < 2 ^ 32
  unfolding f₀
  f₀-lt k R₀ R₁ = omega arith

  f₁-lt : (k R₀ R₁ : ℕ) → f₁ g k R₀ R₁ < 2 ^ 32
  unfolding f₁
  f₁-lt k R₀ R₁ = omega arith

  -- a round keeps words
  round-words : (k₀ k₁ : ℕ) (w : Words) → AreWords w → AreWords (round g k₀ k₁ w)
  unfolding round
  round-words k₀ k₁ w h =
      record {
        a = ror-lt 32 1 _ (lit≤ tt) (xor_lt 32 _ _ h.c (f₀-lt k₀ w.a w.b));
        b = xor_lt 32 _ _ (rol-lt 32 1 _ (lit≤ tt) h.d) (f₁-lt k₁ w.a w.b);
        c = h.a;
        d = h.b;
      }

  unround-words : (k₀ k₁ : ℕ) (w : Words) → AreWords w → AreWords (unround g k₀ k₁ w)
  unfolding unround
  unround-words k₀ k₁ w h =
      record {
        a = h.c;
        b = h.d;
        c = xor_lt 32 _ _ (rol-lt 32 1 _ (lit≤ tt) h.a) (f₀-lt k₀ w.c w.d);
        d = ror-lt 32 1 _ (lit≤ tt) (xor_lt 32 _ _ h.b (f₁-lt k₁ w.c w.d));
      }

  -- a round is undone, and a round undone is done again
  pub unround-round : (k₀ k₁ : ℕ) (w : Words) → AreWords w → unround g k₀ k₁ (round g k₀ k₁ w) ≡ w
  unfolding round unround
  unround-round k₀ k₁ w h =
      let x : ℕ = f₀ g k₀ w.a w.b in
      let y : ℕ = f₁ g k₁ w.a w.b in
      let c : bit_xor (rol 32 1 (ror 32 1 (bit_xor w.c x))) x ≡ w.c =
      ap (λ (v : ℕ). bit_xor v x) (rol-ror 32 1 (bit_xor w.c x) (lit≤ tt) (xor_lt 32 _ _ h.c (f₀-lt k₀ w.a w.b))) ∙ xor_cancel w.c x in
      let d : ror 32 1 (bit_xor (bit_xor (rol 32 1 w.d) y) y) ≡ w.d =
      ap (ror 32 1) (xor_cancel (rol 32 1 w.d) y) ∙ ror-rol 32 1 w.d (lit≤ tt) h.d in
      rw (c, d)

  pub round-unround : (k₀ k₁ : ℕ) (w : Words) → AreWords w → round g k₀ k₁ (unround g k₀ k₁ w) ≡ w
  unfolding round unround
  round-unround k₀ k₁ w h =
      let x : ℕ = f₀ g k₀ w.c w.d in
      let y : ℕ = f₁ g k₁ w.c w.d in
      let a : ror 32 1 (bit_xor (bit_xor (rol 32 1 w.a) x) x) ≡ w.a =
      ap (ror 32 1) (xor_cancel (rol 32 1 w.a) x) ∙ ror-rol 32 1 w.a (lit≤ tt) h.a in
      let b : bit_xor (rol 32 1 (ror 32 1 (bit_xor w.b y))) y ≡ w.b =
      ap (λ (v : ℕ). bit_xor v y) (rol-ror 32 1 (bit_xor w.b y) (lit≤ tt) (xor_lt 32 _ _ h.b (f₁-lt k₁ w.c w.d))) ∙ xor_cancel w.b y in
      rw (a, b)

  -- the same of any number of rounds
  module _ (K : ℕ → ℕ) where
    rounds-words : (n : ℕ) (w : Words) → AreWords w → AreWords (rounds g K n w)
    unfolding rounds
    rounds-words zero w h = h
    rounds-words (suc n) w h = round-words _ _ _ (rounds-words n w h)

    unrounds-words : (n : ℕ) (w : Words) → AreWords w → AreWords (unrounds g K n w)
    unfolding unrounds
    unrounds-words zero w h = h
    unrounds-words (suc n) w h = unrounds-words n _ (unround-words _ _ _ h)

    pub unrounds-rounds : (n : ℕ) (w : Words) → AreWords w → unrounds g K n (rounds g K n w) ≡ w
    unfolding rounds unrounds
    unrounds-rounds zero w h = refl
    unrounds-rounds (suc n) w h =
        ap (unrounds g K n) (unround-round _ _ (rounds g K n w) (rounds-words n w h)) ∙ unrounds-rounds n w h

    pub rounds-unrounds : (n : ℕ) (w : Words) → AreWords w → rounds g K n (unrounds g K n w) ≡ w
    unfolding rounds unrounds
    rounds-unrounds zero w h = refl
    rounds-unrounds (suc n) w h =
        ap (round g _ _) (rounds-unrounds n _ (unround-words _ _ w h)) ∙ round-unround _ _ w h

-- ---- whitening
swapped-words : (w : Words) → AreWords w → AreWords (swapped w)
swapped-words w h = record { a = h.c; b = h.d; c = h.a; d = h.b }

module _ (K : ℕ → ℕ) where
  -- subkeys added twice
  keyed-keyed : (i : ℕ) (w : Words) → keyed K i (keyed K i w) ≡ w
  keyed-keyed i w = rw (xor_cancel w.a (K i), xor_cancel w.b (K (i + 1)), xor_cancel w.c (K (i + 2)), xor_cancel w.d (K (i + 3)))

  whiten-whiten : (w : Words) → whiten K (whiten K w) ≡ w
  unfolding whiten
  whiten-whiten w = keyed-keyed 0 w

  enter-leave : (w : Words) → enter K (leave K w) ≡ w
  unfolding enter leave
  enter-leave w = ap swapped (keyed-keyed 4 (swapped w))

  leave-enter : (w : Words) → leave K (enter K w) ≡ w
  unfolding enter leave
  leave-enter w = keyed-keyed 4 w

  module _ (word : (i : ℕ) → K i < 2 ^ 32) where
    keyed-words : (i : ℕ) (w : Words) → AreWords w → AreWords (keyed K i w)
    keyed-words i w h =
        record {
          a = xor_lt 32 _ _ h.a (word i);
          b = xor_lt 32 _ _ h.b (word (i + 1));
          c = xor_lt 32 _ _ h.c (word (i + 2));
          d = xor_lt 32 _ _ h.d (word (i + 3));
        }

    whiten-words : (w : Words) → AreWords w → AreWords (whiten K w)
    unfolding whiten
    whiten-words w h = keyed-words 0 w h

    enter-words : (w : Words) → AreWords w → AreWords (enter K w)
    unfolding enter
    enter-words w h = swapped-words _ (keyed-words 4 w h)

    leave-words : (w : Words) → AreWords w → AreWords (leave K w)
    unfolding leave
    leave-words w h = keyed-words 4 _ (swapped-words w h)

    -- ---- the four words of a block
    module _ (g : ℕ → ℕ) where
      pub enciphered-words : (w : Words) → AreWords w → AreWords (enciphered_words g K w)
      unfolding enciphered_words
      enciphered-words w h = leave-words _ (rounds-words g K 16 _ (whiten-words w h))

      pub deciphered-words : (w : Words) → AreWords w → AreWords (deciphered_words g K w)
      unfolding deciphered_words
      deciphered-words w h = whiten-words _ (unrounds-words g K 16 _ (enter-words w h))

      pub deciphered-enciphered : (w : Words) → AreWords w → deciphered_words g K (enciphered_words g K w) ≡ w
      unfolding deciphered_words enciphered_words
      deciphered-enciphered w h =
          ap (λ (v : Words). whiten K (unrounds g K 16 v)) (enter-leave (rounds g K 16 (whiten K w)))
          ∙ ap (whiten K) (unrounds-rounds g K 16 (whiten K w) (whiten-words w h)) ∙ whiten-whiten w

      pub enciphered-deciphered : (w : Words) → AreWords w → enciphered_words g K (deciphered_words g K w) ≡ w
      unfolding deciphered_words enciphered_words
      enciphered-deciphered w h =
          ap (λ (v : Words). leave K (rounds g K 16 v)) (whiten-whiten (unrounds g K 16 (enter K w)))
          ∙ ap (leave K) (rounds-unrounds g K 16 (enter K w) (enter-words w h)) ∙ leave-enter w
