-- What it means that a function's promise admits one outcome.
use Rattle.std.proofs.Common.{◌≡◌}

-- A promise is over lifetimes, arguments, a result and the parameters at exit. It admits one result for given arguments
abbrev pub OneResult {i j k} :
    {L : Type i} {A : L → Type j} {R : L → Type 0} {S : L → Type k} → ((κ : L) → A κ → R κ → S κ → Type 0)
    → Type (i ⊔ j ⊔ k)
OneResult {L = L} {A = A} {R = R} {S = S} Post =
    (κ : L) (a : A κ) (r r' : R κ) (s s' : S κ) → Post κ a r s → Post κ a r' s' → r ≡ r'

-- .. and one state of the lent bytes, which `lent` reads from the parameters at exit
abbrev pub OneOutcome {i j k} :
    {L : Type i} {A : L → Type j} {R : L → Type 0} {S : L → Type k} {X : Type 0}
    → ((κ : L) → A κ → R κ → S κ → Type 0) → ((κ : L) → S κ → X) → Type (i ⊔ j ⊔ k)
OneOutcome {L = L} {A = A} {R = R} {S = S} Post lent =
    (κ : L) (a : A κ) (r r' : R κ) (s s' : S κ) → Post κ a r s → Post κ a r' s' → (r ≡ r') × (lent κ s ≡ lent κ s')
