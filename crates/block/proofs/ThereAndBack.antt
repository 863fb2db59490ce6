-- A call of one direction on what a call of the other left, under the same schedule, leaves the bytes that were given, whether the two are refused or not.
use Rattle.std.proofs.Common.{◌≡◌, ℕ, ◌<◌, Bool, true, false, List, length, get_or, eqb, ltb, cond, refl, ap, ap₂, ◌∙◌}
use borrow.Author.Tests.{eq-eqb, eqb-true}
use Rattle.spans.specs.Refusals.{given}
use Rattle.twofish.specs.declared.Twofish.{Twofish}
use Rattle.words.specs.Word.{bytes_of}
use Rattle.block.specs.Block.{block_of, enciphered, deciphered, block_number, Schedule}
use Rattle.block.proofs.Undone.{undone, redone}
use Rattle.block.proofs.encipher.Reads as encipher
use Rattle.block.proofs.decipher.Reads as decipher

-- what a direction f leaves of l
abbrev left : (List ℕ → List ℕ) → Twofish → List ℕ → List ℕ
left f t l = cond (eqb (block_number t l) 0) (f l) l

module _ (e d : List ℕ → List ℕ) (t : Twofish) (l : List ℕ) (long : length (e l) ≡ 16) (undo : length l ≡ 16 → d (e l) ≡ l) where
  back : (m n : List ℕ) → m ≡ left e t l → n ≡ left d t m → n ≡ l
  unfolding block_number given
  back m n em en = by (ltb 2 t.start) (eqb (length l) 16) refl refl
    where
      by : (x y : Bool) → ltb 2 t.start ≡ x → eqb (length l) 16 ≡ y → n ≡ l
      by true y ex ey =
          let same : left e t l ≡ l = simp ex in
          let again : left d t m ≡ m = simp ex in
          en ∙ again ∙ em ∙ same
      by false false ex ey =
          let same : left e t l ≡ l = simp (ex, ey) in
          let short : eqb (length m) 16 ≡ false = ap (λ (k : List ℕ). eqb (length k) 16) (em ∙ same) ∙ ey in
          let again : left d t m ≡ m = simp (ex, short) in
          en ∙ again ∙ em ∙ same
      by false true ex ey =
          let done : m ≡ e l = em ∙ simp (ex, ey) in
          let whole : eqb (length m) 16 ≡ true = ap (λ (k : List ℕ). eqb (length k) 16) done ∙ eq-eqb _ _ long in
          let again : left d t m ≡ d m = simp (ex, whole) in
          en ∙ again ∙ ap d done ∙ undo (eqb-true _ _ ey)

pub enciphered-length : (t : Twofish) (l : List ℕ) → length (enciphered t l) ≡ 16
unfolding enciphered block_of bytes_of
enciphered-length t l = refl

pub deciphered-length : (t : Twofish) (l : List ℕ) → length (deciphered t l) ≡ 16
unfolding deciphered block_of bytes_of
deciphered-length t l = refl

-- promises P and Q of two calls, over lifetimes, arguments, a result and the parameters at exit: where Q's call is under the schedule of P's and on the
-- bytes that P's left, it leaves those that P's was lent
abbrev pub Restores {i j k i' j' k'} :
    {L : Type i} {A : L → Type j} {R : L → Type 0} {S : L → Type k}
    {L' : Type i'} {A' : L' → Type j'} {R' : L' → Type 0} {S' : L' → Type k'}
    → ((κ : L) → A κ → R κ → S κ → Type 0) → ((κ : L) → A κ → Twofish) → ((κ : L) → A κ → List ℕ) → ((κ : L) → S κ → List ℕ)
    → ((κ : L') → A' κ → R' κ → S' κ → Type 0) → ((κ : L') → A' κ → Twofish) → ((κ : L') → A' κ → List ℕ) → ((κ : L') → S' κ → List ℕ)
    → Type (i ⊔ j ⊔ k ⊔ i' ⊔ j' ⊔ k')
Restores {L = L} {A = A} {R = R} {S = S} {L' = L'} {A' = A'} {R' = R'} {S' = S'} P t lent leaves Q t' lent' leaves' =
    (κ : L) (a : A κ) (r : R κ) (s : S κ) → P κ a r s → (κ' : L') (a' : A' κ') (r' : R' κ') (s' : S' κ') → Q κ' a' r' s'
    → Schedule (t κ a) → ((n : ℕ) → get_or (lent κ a) n 0 < 256) → t' κ' a' ≡ t κ a → lent' κ' a' ≡ leaves κ s
    → leaves' κ' s' ≡ lent κ a

pub there_and_back :
    Restores encipher.Post (λ κ a. a.0) (λ κ a. a.1.0.now) (λ κ s. s.1.0.now) decipher.Post (λ κ a. a.0) (λ κ a. a.1.0.now) (λ κ s. s.1.0.now)
there_and_back κ a r s p κ' a' r' s' q words byte et el =
    let t = a.0 in
    let l = a.1.0.now in
    back (enciphered t) (deciphered t) t l (enciphered-length t l) (λ h. undone t l words record { long = h; byte = byte }) _ _ p.1
    (q.1 ∙ ap₂ (λ (u : Twofish) (m : List ℕ). left (deciphered u) u m) et el)

pub back_and_there :
    Restores decipher.Post (λ κ a. a.0) (λ κ a. a.1.0.now) (λ κ s. s.1.0.now) encipher.Post (λ κ a. a.0) (λ κ a. a.1.0.now) (λ κ s. s.1.0.now)
back_and_there κ a r s p κ' a' r' s' q words byte et el =
    let t = a.0 in
    let l = a.1.0.now in
    back (deciphered t) (enciphered t) t l (deciphered-length t l) (λ h. redone t l words record { long = h; byte = byte }) _ _ p.1
    (q.1 ∙ ap₂ (λ (u : Twofish) (m : List ℕ). left (enciphered u) u m) et el)
