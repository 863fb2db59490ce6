-- The walk down the records: the values found so far, over those of an older state.
use Rattle.std.proofs.Common.{◌≡◌, ℕ, zero, suc, ◌<◌, ◌≤◌, Bool, true, false, cond, List, [], ◌∷◌, length, set, get_or, replicate, refl, sym, ap, ◌∙◌, length-set, arith}
use Rattle.settings.specs.declared.Entry.{Entry}
use Rattle.settings.specs.declared.Entry.TheVariants.{Set, GoBack}
use Rattle.settings.specs.Records.{zeros, states, state}
use Rattle.settings.proofs.StateLaws.{state_set, state_back, state-length}

-- the value of a setting that is found, and else the older one
unfoldable pub over : List Bool → List ℕ → List ℕ → List ℕ
over (b ∷ found) (v ∷ values) (o ∷ older) = cond b v o ∷ over found values older
over [] values older = older
over (b ∷ found) [] older = older
over (b ∷ found) (v ∷ values) [] = []

over_none : (n : ℕ) (values older : List ℕ) → over (replicate n false) values older ≡ older
unfolding over
over_none zero values older = refl
over_none (suc n) [] older = refl
over_none (suc n) (v ∷ values) [] = refl
over_none (suc n) (v ∷ values) (o ∷ older) = ap (λ (l : List ℕ). o ∷ l) (over_none n values older)

-- a setting found now
over_found :
    (found : List Bool) (values older : List ℕ) (s x : ℕ) → s < length found → s < length values → s < length older
    → over (set found s true) (set values s x) older ≡ set (over found values older) s x
unfolding over
over_found [] values older s x hf hv ho = absurd (omega arith)
over_found (b ∷ found) [] older s x hf hv ho = absurd (omega arith)
over_found (b ∷ found) (v ∷ values) [] s x hf hv ho = absurd (omega arith)
over_found (b ∷ found) (v ∷ values) (o ∷ older) zero x hf hv ho = refl
over_found (b ∷ found) (v ∷ values) (o ∷ older) (suc s) x hf hv ho =
    ap (λ (l : List ℕ). cond b v o ∷ l) (over_found found values older s x (omega arith) (omega arith) (omega arith))

-- a record of a setting that is not found yet, and of one that is
over_new :
    (found : List Bool) (values older : List ℕ) (s x : ℕ) (d : Bool) → s < length found → s < length values → s < length older
    → get_or found s d ≡ false
    → over found values (set older s x) ≡ set (over found values older) s x
unfolding over
over_new [] values older s x d hf hv ho e = absurd (omega arith)
over_new (b ∷ found) [] older s x d hf hv ho e = absurd (omega arith)
over_new (b ∷ found) (v ∷ values) [] s x d hf hv ho e = absurd (omega arith)
over_new (b ∷ found) (v ∷ values) (o ∷ older) zero x d hf hv ho e = ap (λ (c : Bool). cond c v x ∷ over found values older) e
over_new (b ∷ found) (v ∷ values) (o ∷ older) (suc s) x d hf hv ho e =
    ap (λ (l : List ℕ). cond b v o ∷ l) (over_new found values older s x d (omega arith) (omega arith) (omega arith) e)

over_old :
    (found : List Bool) (values older : List ℕ) (s x : ℕ) (d : Bool) → s < length found → s < length values → get_or found s d ≡ true
    → over found values (set older s x) ≡ over found values older
unfolding over
over_old [] values older s x d hf hv e = absurd (omega arith)
over_old (b ∷ found) [] older s x d hf hv e = absurd (omega arith)
over_old (b ∷ found) (v ∷ values) [] s x d hf hv e = refl
over_old (b ∷ found) (v ∷ values) (o ∷ older) zero x d hf hv e =
    ap (λ (c : Bool). cond c v x ∷ over found values older) e ∙ sym (ap (λ (c : Bool). cond c v o ∷ over found values older) e)
over_old (b ∷ found) (v ∷ values) (o ∷ older) (suc s) x d hf hv e =
    ap (λ (l : List ℕ). cond b v o ∷ l) (over_old found values older s x d (omega arith) (omega arith) e)

-- the walk for a version, with n records left: what is found, over the state after these, is the state that is looked for
pub record Walk (records : ℕ → Entry) (version n : ℕ) (found : List Bool) (values : List ℕ) : Type 0 where
  pub few : n ≤ version
  pub found_long : length found ≡ 32
  pub values_long : length values ≡ 32
  pub state : over found values (state records n) ≡ state records version
  pub rest : over found values zeros ≡ values

pub walk_begun : (records : ℕ → Entry) (version : ℕ) → Walk records version version (replicate 32 false) zeros
walk_begun records version =
    record {
      few = omega arith;
      found_long = refl;
      values_long = refl;
      state = over_none 32 zeros (state records version);
      rest = over_none 32 zeros zeros;
    }

module _ {records : ℕ → Entry} {version n : ℕ} {found : List Bool} {values : List ℕ} (w : Walk records version n found values) where
  -- the last record left sets a setting that is not found yet, or one that is, or it goes back
  module _ (m : ℕ) (e : n ≡ suc m) where
    module _ (s x : ℕ) (h : records m ≡ Set s x) (small : s < 32) where
      before : over found values (set (state records m) s x) ≡ state records version
      before = ap (over found values) (sym (ap (state records) e ∙ state_set records m s x h)) ∙ w.state

      pub walk_found : get_or found s false ≡ false → Walk records version m (set found s true) (set values s x)
      walk_found new =
          let f : s < length found = omega (arith, w.found_long) in
          let v : s < length values = omega (arith, w.values_long) in
          let o : s < length (state records m) = omega (arith, state-length records m) in
          record {
            few = omega (arith, w.few);
            found_long = length-set found s true ∙ w.found_long;
            values_long = length-set values s x ∙ w.values_long;
            state =
                over_found found values (state records m) s x f v o
                ∙ sym (over_new found values (state records m) s x false f v o new) ∙ before;
            rest = over_found found values zeros s x f v small ∙ ap (λ (l : List ℕ). set l s x) w.rest;
          }

      pub walk_past : get_or found s false ≡ true → Walk records version m found values
      walk_past old =
          record {
            few = omega (arith, w.few);
            found_long = w.found_long;
            values_long = w.values_long;
            state =
                sym (over_old found values (state records m) s x false (omega (arith, w.found_long)) (omega (arith, w.values_long)) old) ∙ before;
            rest = w.rest;
          }

    pub walk_back : (v : ℕ) → records m ≡ GoBack v → v ≤ m → (left : ℕ) → left ≡ v → Walk records version left found values
    walk_back v h le left k =
        record {
          few = omega (arith, w.few);
          found_long = w.found_long;
          values_long = w.values_long;
          state = ap (over found values) (ap (state records) k ∙ sym (ap (state records) e ∙ state_back records m v h le)) ∙ w.state;
          rest = w.rest;
        }

  -- none is left
  pub walk_done : n ≡ 0 → values ≡ state records version
  unfolding state states
  walk_done e = sym w.rest ∙ ap (λ (k : ℕ). over found values (state records k)) (sym e) ∙ w.state
