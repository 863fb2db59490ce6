-- Lists in slot order.
use Rattle.std.specs.Prelude.{List, [], ◌∷◌, ◌++◌, ℕ, suc}

module _ {A : Type 0} where
  -- what f makes of each slot from s on, one after the other
  unfoldable pub in_order : (ℕ → A → List ℕ) → ℕ → List A → List ℕ
  in_order f s [] = []
  in_order f s (x ∷ xs) = f s x ++ in_order f (suc s) xs

  -- P holds of each slot from s on
  abbrev pub Each : (ℕ → A → Type 0) → ℕ → List A → Type 0
  Each P s [] = Unit {0}
  Each P s (x ∷ xs) = P s x × Each P (suc s) xs
