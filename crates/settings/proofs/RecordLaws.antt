-- Laws of records: what eight bytes say, and which of the first records break the layout.
use Rattle.std.proofs.Common.{◌≡◌, ℕ, zero, suc, ◌+◌, ◌-◌, ◌*◌, ◌<◌, ◌≤◌, Bool, true, false, ◌||◌, List, [], ◌∷◌, length, take, drop, get_or, refl, sym, ap, ◌∙◌, ⊎_elim, arith, le_of_suc-le-suc, eq-or-lt_of_le}
use Rattle.std.proofs.lemmas.List.{get_or-drop, length-drop}
use Rattle.std.proofs.lemmas.Bool.Decides.{nat_tests}
use borrow.Author.Tests.{ltb-false}
use Rattle.words.specs.Word.{bytes_of}
use Rattle.words.proofs.Bytes.{four}
use Rattle.settings.specs.declared.Entry.{Entry}
use Rattle.settings.specs.declared.Entry.TheVariants.{Set, GoBack}
use Rattle.settings.specs.Records.{laid, said, outside, breaks, record_bytes, record_at, broken}

-- the last four of eight bytes
pub last_four : (r : List ℕ) → length r ≡ 8 → get_or r 4 0 ∷ get_or r 5 0 ∷ get_or r 6 0 ∷ get_or r 7 0 ∷ [] ≡ drop 4 r
last_four r e = sym (four (drop 4 r) (length-drop 4 r ∙ omega (arith, e)) ∙ simp get_or-drop)

-- the four bytes of a number, written out
pub bytes_listed : (x : ℕ) (b : List ℕ) → b ≡ bytes_of x → get_or b 0 0 ∷ get_or b 1 0 ∷ get_or b 2 0 ∷ get_or b 3 0 ∷ [] ≡ bytes_of x
unfolding bytes_of
bytes_listed x b e = ap (λ (l : List ℕ). get_or l 0 0 ∷ get_or l 1 0 ∷ get_or l 2 0 ∷ get_or l 3 0 ∷ []) e

-- what is not outside: a setting below 32, and a version of the records before
pub setting_inside : (before setting value : ℕ) → outside before (Set setting value) ≡ false → setting < 32
unfolding outside
setting_inside before setting value e = omega (arith, ltb-false _ _ e)

pub version_inside : (before version : ℕ) → outside before (GoBack version) ≡ false → version ≤ before
unfolding outside
version_inside before version e = ltb-false _ _ e

pub neither : (a b : Bool) → (a || b) ≡ false → (a ≡ false) × (b ≡ false)
neither true b e = absurd cc
neither false b e = (refl, e)

-- a record that keeps the layout says nothing outside
said_inside : (before : ℕ) (r : List ℕ) → breaks before r ≡ false → outside before (said r) ≡ false
unfolding breaks
said_inside before r e = grind (arith, nat_tests)

-- what is inside, and says itself in its eight bytes, keeps the layout
pub laid_kept : (before : ℕ) (x : Entry) → outside before x ≡ false → said (laid x) ≡ x → breaks before (laid x) ≡ false
unfolding breaks laid
laid_kept before (Set setting value) h e = ap (outside before) e ∙ h
laid_kept before (GoBack version) h e = ap (outside before) e ∙ h

-- the part of a store that the code takes for record i
pub part : (i : ℕ) (store : List ℕ) → take (8 * i + 8 - 8 * i) (drop (8 * i) store) ≡ record_bytes i store
unfolding record_bytes
part i store = let n : 8 * i + 8 - 8 * i ≡ 8 = omega arith in ap (λ (k : ℕ). take k (drop (8 * i) store)) n

pub part_said : (i : ℕ) (store : List ℕ) (x : Entry) → x ≡ said (take (8 * i + 8 - 8 * i) (drop (8 * i) store)) → record_at store i ≡ x
unfolding record_at
part_said i store x e = ap said (sym (part i store)) ∙ sym e

-- a record is eight bytes
pub laid-length : (x : Entry) → length (laid x) ≡ 8
unfolding laid bytes_of
laid-length (Set setting value) = refl
laid-length (GoBack version) = refl

module _ (store : List ℕ) where
  -- the first n and one more
  pub broken_more : (n : ℕ) → broken n store ≡ false → breaks n (record_bytes n store) ≡ false → broken (suc n) store ≡ false
  unfolding broken
  broken_more n e h = ap (λ (b : Bool). b || breaks n (record_bytes n store)) e ∙ h

  pub broken_all : (n : ℕ) → ((i : ℕ) → i < n → breaks i (record_bytes i store) ≡ false) → broken n store ≡ false
  unfolding broken
  broken_all zero h = refl
  broken_all (suc n) h = broken_more n (broken_all n (λ i k. h i (omega (arith, k)))) (h n (omega arith))

  pub broken_less : (m n : ℕ) → m ≤ n → broken n store ≡ false → broken m store ≡ false
  unfolding broken
  broken_less m zero h e = let z : m ≡ 0 = omega arith in ap (λ (k : ℕ). broken k store) z
  broken_less m (suc n) h e =
      ⊎_elim (λ q. ap (λ (k : ℕ). broken k store) q ∙ e) (λ l. broken_less m n (le_of_suc-le-suc l) (neither _ _ e).0) (eq-or-lt_of_le h)

  -- each of them
  broken_none : (n i : ℕ) → i < n → broken n store ≡ false → breaks i (record_bytes i store) ≡ false
  unfolding broken
  broken_none n i h e = (neither _ _ (broken_less (suc i) n h e)).1

  pub broken_found : (n i : ℕ) → i < n → breaks i (record_bytes i store) ≡ true → broken n store ≡ true
  unfolding broken
  broken_found n i h e = by (broken n store) refl
    where
      by : (b : Bool) → broken n store ≡ b → b ≡ true
      by true z = refl
      by false z = absurd (let k = broken_none n i h z in cc)

  -- and what they say is inside
  pub record_inside : (n i : ℕ) → i < n → broken n store ≡ false → outside i (record_at store i) ≡ false
  unfolding record_at
  record_inside n i h e = said_inside i (record_bytes i store) (broken_none n i h e)
