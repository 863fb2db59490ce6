-- Laws of the key schedule: a pair of subkeys as the code sums it, the S bytes, and what set-up hands back.
use mathlib.Core.Path.{◌≡◌, refl, ap, ap₂, ◌∙◌}
use mathlib.Core.Bool.{true, false}
use mathlib.Core.List.{List}
use Prim.Native.Nat.{ℕ, ◌+◌, ◌*◌, ◌/◌, ◌%◌, ◌^◌}
use native.Mathlib.Omega.{arith}
use lib.ListN.{length}
use Rattle.words.specs.Word.{rol, sum32}
use Rattle.spans.specs.Refusals.{given}
use Rattle.field.specs.Matrix.{times}
use Rattle.twofish.specs.H.{h}
use Rattle.twofish.specs.Schedule.{ρ, m_e, m_o, a_word, b_word, k_word, s_bytes, schedule, refused, taken, padded, units, key_number, set_up}
use Rattle.twofish.specs.Answers.{nowhere, told, answer_at}
use Rattle.twofish.specs.declared.Twofish.{Twofish}

module _ (m : List ℕ) (k x a g b v : ℕ) (ea : a ≡ h (ρ * (2 * x)) (m_e m k)) (eg : g ≡ h (ρ * (2 * x + 1)) (m_o m k))
    (eb : b ≡ rol 32 8 g) (ev : v ≡ sum32 a b) where
  is_a_word : a ≡ a_word m k x
  unfolding a_word
  is_a_word = ea

  is_b_word : b ≡ b_word m k x
  unfolding b_word
  is_b_word = eb ∙ ap (rol 32 8) eg

  -- K_{2x}
  pub even_key : v ≡ k_word m k (2 * x)
  unfolding k_word sum32
  even_key =
      let even : 2 * x % 2 ≡ 0 = omega arith in
      let half : 2 * x / 2 ≡ x = omega arith in
      rw (even, half) (ev ∙ ap₂ (λ (s t : ℕ). (s + t) % 2 ^ 32) is_a_word is_b_word)

  -- K_{2x+1}: v + b is A + 2B
  pub odd_key : (w r : ℕ) → w ≡ sum32 v b → r ≡ rol 32 9 w → r ≡ k_word m k (2 * x + 1)
  unfolding k_word sum32
  odd_key w r ew er =
      let odd : (2 * x + 1) % 2 ≡ 1 = omega arith in
      let half : (2 * x + 1) / 2 ≡ x = omega arith in
      let sum : w ≡ (a + 2 * b) % 2 ^ 32 = omega arith in
      rw (odd, half) (er ∙ ap (rol 32 9) (sum ∙ ap₂ (λ (s t : ℕ). (s + 2 * t) % 2 ^ 32) is_a_word is_b_word))

-- eight key bytes give four S bytes
pub s_four : (m : List ℕ) (i : ℕ) → length (s_bytes m i) ≡ 4
unfolding s_bytes times
s_four m i = refl

-- what set-up hands back for a length that is taken, and for another
pub set_up_taken :
    (m : List ℕ) (t : Twofish) → taken (length m) ≡ true → t ≡ schedule (padded m) (units (padded m))
    → record { answer = told 0 0 nowhere; schedule = t } ≡ set_up m
unfolding set_up key_number given answer_at
set_up_taken m t e et = rw e (ap (λ (u : Twofish). record { answer = told 0 0 nowhere; schedule = u }) et)

pub set_up_refused :
    (m : List ℕ) → taken (length m) ≡ false → record { answer = told 1 0 nowhere; schedule = refused } ≡ set_up m
unfolding set_up key_number given answer_at
set_up_refused m e = rw e
