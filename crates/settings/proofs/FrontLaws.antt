-- Laws of the used part of a store: the first n records are by its first 8n bytes alone.
use Rattle.std.proofs.Common.{◌≡◌, ℕ, zero, suc, ◌+◌, ◌-◌, ◌*◌, ◌<◌, ◌||◌, Bool, List, take, drop, refl, sym, ap, ap₂, ◌∙◌, arith}
use Rattle.std.proofs.lemmas.List.{take-take, drop-take}
use Rattle.settings.specs.Records.{said, breaks, record_bytes, record_at, broken}

-- a record of the first n
pub record_front : (n i : ℕ) (store : List ℕ) → i < n → record_bytes i (take (8 * n) store) ≡ record_bytes i store
unfolding record_bytes
record_front n i store h =
    let m : ℕ = 8 * n - 8 * i in
    let on : 8 * n ≡ 8 * i + m = omega arith in
    ap (λ (k : ℕ). take 8 (drop (8 * i) (take k store))) on
    ∙ ap (take 8) (drop-take (8 * i) m store)
    ∙ take-take 8 m (drop (8 * i) store) (omega arith)

module _ (s s' : List ℕ) (n : ℕ) (e : take (8 * n) s ≡ take (8 * n) s') where
  pub same_record : (i : ℕ) → i < n → record_bytes i s ≡ record_bytes i s'
  same_record i h = sym (record_front n i s h) ∙ ap (record_bytes i) e ∙ record_front n i s' h

  pub same_said : (i : ℕ) → i < n → record_at s i ≡ record_at s' i
  unfolding record_at
  same_said i h = ap said (same_record i h)

-- whether one of them breaks the layout
pub same_broken : (s s' : List ℕ) (n : ℕ) → ((i : ℕ) → i < n → record_bytes i s ≡ record_bytes i s') → broken n s ≡ broken n s'
unfolding broken
same_broken s s' zero h = refl
same_broken s s' (suc n) h =
    ap₂ (λ (b : Bool) (r : List ℕ). b || breaks n r) (same_broken s s' n (λ i k. h i (omega (arith, k)))) (h n (omega arith))
