-- Laws of lists by their elements, of arrays that are filled from the start, and of the words of a list of bytes.
use mathlib.Core.Path.{◌≡◌, refl, sym, ap, ap₂, ◌∙◌}
use mathlib.Core.List.{List, [], ◌∷◌, ◌++◌, append_assoc, append-nil}
use mathlib.Core.Logic.{⊎_elim}
use Prim.Native.Nat.{ℕ, zero, suc, ◌+◌, ◌-◌, ◌*◌, ◌≤◌, ◌<◌}
use native.Mathlib.Nat.{add-zero, le_of_suc-le-suc, eq-or-lt_of_le, not-suc-le-zero}
use native.Mathlib.Numerals.{add-one}
use native.Mathlib.Omega.{arith}
use lib.Dec.{lit<}
use lib.ListN.{length, get_or, set, take, drop, replicate, length-append, length-set, length-drop, get_or-append}
use lib.Seq.{length-take-le, get_or-take, get_or-drop, take-suc-set, take_at, drop-append-add, get_or_at, sets-eq}
use Rattle.words.specs.Word.{bytes_of}
use Rattle.words.proofs.Bytes.{bytes_word, four}
use Rattle.std.specs.List.{concat}
use Rattle.spans.specs.Parts.{splice}
use Rattle.twofish.specs.Lists.{listed, word_at}

-- ---- elements
module _ {A : Type 0} (f : ℕ → A) where
  pub listed-length : (n : ℕ) → length (listed f n) ≡ n
  unfolding listed
  listed-length zero = refl
  listed-length (suc n) = length-append (listed f n) (f n ∷ []) ∙ omega (arith, listed-length n)

  pub listed_at : (n i : ℕ) (d : A) → i < n → get_or (listed f n) i d ≡ f i
  unfolding listed
  listed_at zero i d h = absurd (not-suc-le-zero h)
  listed_at (suc n) i d h =
      ⊎_elim
      (λ e. ap (λ (j : ℕ). get_or (listed f n ++ (f n ∷ [])) j d) e ∙ get_or_at (listed f n) (f n) [] d n (listed-length n) ∙ ap f (sym e))
      (λ l. get_or-append (listed f n) (f n ∷ []) d i (omega (arith, listed-length n)) ∙ listed_at n i d l)
      (eq-or-lt_of_le (le_of_suc-le-suc h))

  pub listed_same : (g : ℕ → A) (n : ℕ) → ((i : ℕ) → i < n → f i ≡ g i) → listed f n ≡ listed g n
  unfolding listed
  listed_same g zero e = refl
  listed_same g (suc n) e = ap₂ (λ (l : List A) (x : A). l ++ (x ∷ [])) (listed_same g n (λ i h. e i (omega arith))) (e n (omega arith))

-- ---- an array that is filled from the start
module _ (f : ℕ → ℕ) (l : List ℕ) where
  -- one element more
  pub fill : (i v : ℕ) → take i l ≡ listed f i → i < length l → v ≡ f i → take (i + 1) (set l i v) ≡ listed f (i + 1)
  unfolding listed
  fill i v e h w = rw add-one (take-suc-set l i v h ∙ ap₂ (λ (p : List ℕ) (x : ℕ). p ++ (x ∷ [])) e w)

-- two elements more, at an even place
pub fill_two :
    (f : ℕ → ℕ) (l : List ℕ) (x v w : ℕ) → take (2 * x) l ≡ listed f (2 * x) → 2 * x + 1 < length l → v ≡ f (2 * x)
    → w ≡ f (2 * x + 1) → take (2 * (x + 1)) (set (set l (2 * x) v) (2 * x + 1) w) ≡ listed f (2 * (x + 1))
fill_two f l x v w e h p q =
    let two : 2 * (x + 1) ≡ 2 * x + 1 + 1 = omega arith in
    let room : 2 * x + 1 < length (set l (2 * x) v) = simp length-set h in
    rw two (fill f (set l (2 * x) v) (2 * x + 1) w (fill f l (2 * x) v e (omega arith) p) room q)

-- four elements stored one after the other
pub set_four :
    (l : List ℕ) (j a b c d : ℕ) → j + 4 ≤ length l
    → set (set (set (set l j a) (j + 1) b) (j + 2) c) (j + 3) d ≡ splice j (a ∷ b ∷ c ∷ d ∷ []) l
unfolding splice
set_four l j a b c d h =
    let two : j + 2 ≡ suc (suc j) = omega arith in
    let three : j + 3 ≡ suc (suc (suc j)) = omega arith in
    rw (add-one j, two, three) (sets-eq (a ∷ b ∷ c ∷ d ∷ []) l j h ∙ append_assoc (take j l) (a ∷ b ∷ c ∷ d ∷ []) (drop (j + 4) l))

-- ---- parts of one width, one after the other, and zeros up to the end
pub concat_snoc : (ls : List (List ℕ)) (l : List ℕ) → concat (ls ++ (l ∷ [])) ≡ concat ls ++ l
concat_snoc [] l = append-nil l
concat_snoc (m ∷ ls) l = ap (λ (r : List ℕ). m ++ r) (concat_snoc ls l) ∙ sym (append_assoc m (concat ls) l)

module _ (f : ℕ → List ℕ) (w : ℕ) (wide : (i : ℕ) → length (f i) ≡ w) where
  pub parts_length : (n : ℕ) → length (concat (listed f n)) ≡ n * w
  unfolding listed
  parts_length zero = omega arith
  parts_length (suc n) =
      ap length (concat_snoc (listed f n) (f n)) ∙ length-append (concat (listed f n)) (f n)
      ∙ omega (arith, parts_length n, wide n)

-- one part more, in the place of zeros
pub part_more :
    (f : ℕ → List ℕ) (i z : ℕ) → ((i : ℕ) → length (f i) ≡ 4)
    → splice (4 * i) (f i) (concat (listed f i) ++ replicate (suc (suc (suc (suc z)))) 0)
    ≡ concat (listed f (i + 1)) ++ replicate z 0
unfolding splice listed
part_more f i z wide =
    let done : List ℕ = concat (listed f i) in
    let long : length done ≡ 4 * i = omega (arith, parts_length f 4 wide i) in
    let past : 4 * i + length (f i) ≡ length done + 4 = omega (arith, wide i) in
    rw (take_at done (replicate (suc (suc (suc (suc z)))) 0) (4 * i) long, past, drop-append-add done (replicate (suc (suc (suc (suc z)))) 0) 4, add-one i, concat_snoc (listed f i) (f i))
    (sym (append_assoc done (f i) (replicate z 0)))

-- the same, where the first parts stand
pub part_written :
    (f : ℕ → List ℕ) (i : ℕ) (s b : List ℕ) → ((i : ℕ) → length (f i) ≡ 4) → i < 4
    → s ≡ concat (listed f i) ++ replicate (16 - 4 * i) 0 → b ≡ f i
    → splice (4 * i) b s ≡ concat (listed f (i + 1)) ++ replicate (16 - 4 * (i + 1)) 0
part_written f i s b wide h e eb =
    let left : 16 - 4 * i ≡ suc (suc (suc (suc (16 - 4 * (i + 1))))) = omega arith in
    ap₂ (splice (4 * i)) eb (e ∙ ap (λ (n : ℕ). concat (listed f i) ++ replicate n 0) left)
    ∙ part_more f i (16 - 4 * (i + 1)) wide

-- the same, as four stores; no proof cites this now, and it stays since docs/PORT.md names it
pub stores_more :
    (f : ℕ → List ℕ) (i : ℕ) (s b : List ℕ) → ((i : ℕ) → length (f i) ≡ 4) → i < 4
    → s ≡ concat (listed f i) ++ replicate (16 - 4 * i) 0 → length s ≡ 16 → b ≡ f i
    → set (set (set (set s (4 * i) (get_or b 0 0)) (4 * i + 1) (get_or b 1 0)) (4 * i + 2) (get_or b 2 0)) (4 * i + 3) (get_or b 3 0)
    ≡ concat (listed f (i + 1)) ++ replicate (16 - 4 * (i + 1)) 0
stores_more f i s b wide h e long eb =
    let all : get_or b 0 0 ∷ get_or b 1 0 ∷ get_or b 2 0 ∷ get_or b 3 0 ∷ [] ≡ f i = sym (four b (ap length eb ∙ wide i)) ∙ eb in
    set_four s (4 * i) (get_or b 0 0) (get_or b 1 0) (get_or b 2 0) (get_or b 3 0) (omega arith)
    ∙ part_written f i s _ wide h e all

-- ---- words of bytes
pub bytes_at :
    (m : List ℕ) (i : ℕ) → ((j : ℕ) → get_or m j 0 < 256)
    → bytes_of (word_at m i) ≡ get_or m (4 * i) 0 ∷ get_or m (4 * i + 1) 0 ∷ get_or m (4 * i + 2) 0 ∷ get_or m (4 * i + 3) 0 ∷ []
unfolding word_at
bytes_at m i byte = bytes_word _ _ _ _ (byte (4 * i)) (byte (4 * i + 1)) (byte (4 * i + 2)) (byte (4 * i + 3))

-- the four bytes where a word stands
pub part_bytes :
    (m : List ℕ) (i : ℕ) → 4 * i + 4 ≤ length m → ((j : ℕ) → get_or m j 0 < 256) → take 4 (drop (4 * i) m) ≡ bytes_of (word_at m i)
part_bytes m i room byte =
    let part : List ℕ = take 4 (drop (4 * i) m) in
    let long : length part ≡ 4 = length-take-le 4 (drop (4 * i) m) (omega (arith, length-drop (4 * i) m)) in
    let at : (j : ℕ) → j < 4 → get_or part j 0 ≡ get_or m (4 * i + j) 0 =
    λ j h. get_or-take 4 (drop (4 * i) m) j 0 h ∙ get_or-drop (4 * i) m j 0 in
    four part long
    ∙ rw (at 0 (lit< tt), at 1 (lit< tt), at 2 (lit< tt), at 3 (lit< tt), add-zero (4 * i)) (sym (bytes_at m i byte))
