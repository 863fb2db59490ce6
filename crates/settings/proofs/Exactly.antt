-- A number is given exactly when its condition holds and none before it does.
use Rattle.std.proofs.Common.{◌≡◌, ℕ, true, false, Bool, not, ◌||◌, eqb, ltb, List, [], ◌∷◌, length, arith}
use Rattle.spans.specs.Refusals.{Line, ◌when◌, given}
use Rattle.spans.proofs.RefusalLaws.{NoneHolds, given_exactly}
use Rattle.settings.specs.declared.Entry.{Entry}
use Rattle.settings.specs.Records.{outside, broken}
use Rattle.settings.specs.Answers.{refusals, read_number, add_number}

-- a number n is k exactly when b holds and none of the lines before it does
abbrev pub Exactly : ℕ → ℕ → Bool → List Line → Type 0
Exactly n k b before = (n ≡ k → NoneHolds before × (b ≡ true)) × (NoneHolds before → b ≡ true → n ≡ k)

module _ (store : List ℕ) (used : ℕ) where
  -- the conditions of 16 and 17
  abbrev pub wrong : Bool
  wrong = not (eqb (length store) 8192) || ltb 1024 used

  abbrev pub broke : Bool
  broke = broken used store

  -- of any call
  module _ (out full : Bool) where
    sixteen : Exactly (given (refusals store used out full)) 16 wrong []
    unfolding refusals
    sixteen = given_exactly 16 wrong [] (17 when broke ∷ 18 when out ∷ 19 when full ∷ []) (λ z. omega (arith, z)) tt tt

    seventeen : Exactly (given (refusals store used out full)) 17 broke (16 when wrong ∷ [])
    unfolding refusals
    seventeen = given_exactly 17 broke (16 when wrong ∷ []) (18 when out ∷ 19 when full ∷ []) (λ z. omega (arith, z)) tt tt

    eighteen : Exactly (given (refusals store used out full)) 18 out (16 when wrong ∷ 17 when broke ∷ [])
    unfolding refusals
    eighteen = given_exactly 18 out (16 when wrong ∷ 17 when broke ∷ []) (19 when full ∷ []) (λ z. omega (arith, z)) tt tt

    nineteen : Exactly (given (refusals store used out full)) 19 full (16 when wrong ∷ 17 when broke ∷ 18 when out ∷ [])
    unfolding refusals
    nineteen = given_exactly 19 full (16 when wrong ∷ 17 when broke ∷ 18 when out ∷ []) [] (λ z. omega (arith, z)) tt tt

  -- of a reading
  module _ (version : ℕ) where
    pub read_sixteen : Exactly (read_number store used version) 16 wrong []
    unfolding read_number
    read_sixteen = sixteen (ltb used version) false

    pub read_seventeen : Exactly (read_number store used version) 17 broke (16 when wrong ∷ [])
    unfolding read_number
    read_seventeen = seventeen (ltb used version) false

    pub read_eighteen : Exactly (read_number store used version) 18 (ltb used version) (16 when wrong ∷ 17 when broke ∷ [])
    unfolding read_number
    read_eighteen = eighteen (ltb used version) false

  -- of a record to be added
  module _ (entry : Entry) where
    pub add_sixteen : Exactly (add_number store used entry) 16 wrong []
    unfolding add_number
    add_sixteen = sixteen (outside used entry) (eqb used 1024)

    pub add_seventeen : Exactly (add_number store used entry) 17 broke (16 when wrong ∷ [])
    unfolding add_number
    add_seventeen = seventeen (outside used entry) (eqb used 1024)

    pub add_eighteen : Exactly (add_number store used entry) 18 (outside used entry) (16 when wrong ∷ 17 when broke ∷ [])
    unfolding add_number
    add_eighteen = eighteen (outside used entry) (eqb used 1024)

    pub add_nineteen :
        Exactly (add_number store used entry) 19 (eqb used 1024) (16 when wrong ∷ 17 when broke ∷ 18 when outside used entry ∷ [])
    unfolding add_number
    add_nineteen = nineteen (outside used entry) (eqb used 1024)
