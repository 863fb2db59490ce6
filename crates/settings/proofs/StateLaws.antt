-- Laws of states: what the next record makes of those before it.
use Rattle.std.proofs.Common.{◌≡◌, ℕ, zero, suc, ◌<◌, ◌≤◌, List, [], ◌∷◌, ◌++◌, length, length-set, length-append, set, get_or, refl, sym, ap, ap₂, ◌∙◌, ⊎_elim, arith, le_of_suc-le-suc, eq-or-lt_of_le}
use Rattle.std.proofs.lemmas.List.{get_or_append_left, get_or_push}
use Rattle.settings.specs.declared.Entry.{Entry}
use Rattle.settings.specs.declared.Entry.TheVariants.{Set, GoBack}
use Rattle.settings.specs.Records.{zeros, next, states, state}

-- what holds of each element, one that is added, and the default
each_push :
    (P : List ℕ → Type 0) (d x : List ℕ) (l : List (List ℕ)) → P d → P x → ((i : ℕ) → P (get_or l i d)) → (i : ℕ)
    → P (get_or (l ++ x ∷ []) i d)
each_push P d x [] hd hx h zero = hx
each_push P d x [] hd hx h (suc i) = hd
each_push P d x (y ∷ l) hd hx h zero = h 0
each_push P d x (y ∷ l) hd hx h (suc i) = each_push P d x l hd hx (λ j. h (suc j)) i

module _ (records : ℕ → Entry) where
  states-length : (n : ℕ) → length (states records n) ≡ suc n
  unfolding states
  states-length zero = refl
  states-length (suc n) = length-append (states records n) _ ∙ omega (arith, states-length n)

  -- the state after n + 1 records
  state_next : (n : ℕ) → state records (suc n) ≡ next (records n) n (states records n)
  unfolding state states
  state_next n = get_or_push (states records n) _ zeros (suc n) (states-length n)

  state_last : (n v : ℕ) → v ≡ n → get_or (states records n) v zeros ≡ state records v
  unfolding state
  state_last n v e = ap (λ (k : ℕ). get_or (states records k) v zeros) (sym e)

  -- the states do not change as records are added
  states_kept : (n v : ℕ) → v ≤ n → get_or (states records n) v zeros ≡ state records v
  unfolding state states
  states_kept zero v h = state_last zero v (omega arith)
  states_kept (suc n) v h =
      ⊎_elim (λ q. state_last (suc n) v q)
      (λ l. get_or_append_left (states records n) _ zeros v (omega (arith, states-length n)) ∙ states_kept n v (le_of_suc-le-suc l))
      (eq-or-lt_of_le h)

  pub state_set : (n setting value : ℕ) → records n ≡ Set setting value → state records (suc n) ≡ set (state records n) setting value
  unfolding next state
  state_set n setting value e = state_next n ∙ ap (λ (x : Entry). next x n (states records n)) e

  pub state_back : (n version : ℕ) → records n ≡ GoBack version → version ≤ n → state records (suc n) ≡ state records version
  unfolding next
  state_back n version e h = state_next n ∙ ap (λ (x : Entry). next x n (states records n)) e ∙ states_kept n version h

  -- a state has 32 values
  next-length : (x : Entry) (n : ℕ) (past : List (List ℕ)) → ((v : ℕ) → length (get_or past v zeros) ≡ 32) → length (next x n past) ≡ 32
  unfolding next
  next-length (Set setting value) n past h = length-set (get_or past n zeros) setting value ∙ h n
  next-length (GoBack version) n past h = h version

  each_long : (n v : ℕ) → length (get_or (states records n) v zeros) ≡ 32
  unfolding states
  each_long zero zero = refl
  each_long zero (suc v) = refl
  each_long (suc n) v =
      each_push (λ l. length l ≡ 32) zeros (next (records n) n (states records n)) (states records n) refl
      (next-length (records n) n (states records n) (each_long n)) (each_long n) v

  pub state-length : (n : ℕ) → length (state records n) ≡ 32
  unfolding state
  state-length n = each_long n n

-- the states after n records are by these alone
states_same : (f g : ℕ → Entry) (n : ℕ) → ((i : ℕ) → i < n → f i ≡ g i) → states f n ≡ states g n
unfolding states
states_same f g zero h = refl
states_same f g (suc n) h =
    ap₂ (λ (s : List (List ℕ)) (x : Entry). s ++ next x n s ∷ []) (states_same f g n (λ i k. h i (omega (arith, k)))) (h n (omega arith))

pub state_same : (f g : ℕ → Entry) (n : ℕ) → ((i : ℕ) → i < n → f i ≡ g i) → state f n ≡ state g n
unfolding state
state_same f g n h = ap (λ (l : List (List ℕ)). get_or l n zeros) (states_same f g n h)
