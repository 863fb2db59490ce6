-- Laws of the rounds: a round as the code sums it, and two rounds to a turn.
use Rattle.std.proofs.Common.{◌≡◌, ℕ, suc, ◌+◌, ◌*◌, ◌%◌, ◌^◌, ap, ap₂, sym, ◌∙◌, arith}
use Rattle.words.specs.Word.{rol, sum32}
use Rattle.block.specs.declared.Words.{Words}
use Rattle.block.specs.Rounds.{f₀, f₁, round, unround, rounds, unrounds}

-- F0 and F1 as the code sums them: T0 is taken with T1 already added, and F1 adds T1 once more
pub sums :
    (g : ℕ → ℕ) (k₀ k₁ a b ga r t₁ t₀ s x₀ x₁ : ℕ) → ga ≡ g a → r ≡ rol 32 8 b → t₁ ≡ g r → t₀ ≡ sum32 ga t₁ → x₀ ≡ sum32 t₀ k₀
    → s ≡ sum32 t₁ t₀ → x₁ ≡ sum32 s k₁ → (x₀ ≡ f₀ g k₀ a b) × (x₁ ≡ f₁ g k₁ a b)
unfolding f₀ f₁ sum32
sums g k₀ k₁ a b ga r t₁ t₀ s x₀ x₁ ea er e₁ e₀ ex₀ es ex₁ =
    let once : x₀ ≡ (ga + t₁ + k₀) % 2 ^ 32 = omega arith in
    let twice : x₁ ≡ (ga + 2 * t₁ + k₁) % 2 ^ 32 = omega arith in
    let whole : t₁ ≡ g (rol 32 8 b) = e₁ ∙ ap g er in
    (once ∙ ap₂ (λ (x y : ℕ). (x + y + k₀) % 2 ^ 32) ea whole, twice ∙ ap₂ (λ (x y : ℕ). (x + 2 * y + k₁) % 2 ^ 32) ea whole)

-- ---- two rounds to a turn: the subkeys of rounds 2r and 2r + 1, as the paper numbers them and as the code steps
module _ (r : ℕ) where
  first₀ : 2 * (2 * r) + 8 ≡ 4 * r + 8
  first₀ = omega arith

  first₁ : 2 * (2 * r) + 9 ≡ 4 * r + 8 + 1
  first₁ = omega arith

  second₀ : 2 * suc (2 * r) + 8 ≡ 4 * r + 8 + 2
  second₀ = omega arith

  second₁ : 2 * suc (2 * r) + 9 ≡ 4 * r + 8 + 2 + 1
  second₁ = omega arith

pub rounds_two :
    (g K : ℕ → ℕ) (r : ℕ) (w p q v : Words) → p ≡ rounds g K (2 * r) w → q ≡ round g (K (4 * r + 8)) (K (4 * r + 8 + 1)) p
    → v ≡ round g (K (4 * r + 8 + 2)) (K (4 * r + 8 + 2 + 1)) q → v ≡ rounds g K (2 * (r + 1)) w
unfolding rounds
rounds_two g K r w p q v ep eq ev =
    let two : 2 * (r + 1) ≡ suc (suc (2 * r)) = omega arith in
    rw (two, first₀ r, first₁ r, second₀ r, second₁ r) cc

-- and undone
pub unrounds_two :
    (g K : ℕ → ℕ) (n r : ℕ) (c q v t : Words) → n ≡ r + 1 → unrounds g K (2 * n) c ≡ t
    → q ≡ unround g (K (4 * r + 8 + 2)) (K (4 * r + 8 + 2 + 1)) c → v ≡ unround g (K (4 * r + 8)) (K (4 * r + 8 + 1)) q
    → unrounds g K (2 * r) v ≡ t
unfolding unrounds
unrounds_two g K n r c q v t en e eq ev =
    let two : 2 * n ≡ suc (suc (2 * r)) = omega arith in
    let last : unrounds g K (suc (suc (2 * r))) c ≡ t = sym (ap (λ (m : ℕ). unrounds g K m c) two) ∙ e in
    let back :
    v ≡ unround g (K (2 * (2 * r) + 8)) (K (2 * (2 * r) + 9)) (unround g (K (2 * suc (2 * r) + 8)) (K (2 * suc (2 * r) + 9)) c) =
    rw (first₀ r, first₁ r, second₀ r, second₁ r) cc in
    ap (unrounds g K (2 * r)) back ∙ last
