-- A loop that writes a list over the front of another, one element a turn.
use mathlib.Core.Path.{◌≡◌, refl, sym, ap, ◌∙◌}
use mathlib.Core.List.{List, ◌++◌}
use Prim.Native.Nat.{ℕ, suc, ◌+◌, ◌≤◌, ◌<◌}
use native.Mathlib.Nat.{add-zero, zero-add}
use native.Mathlib.Numerals.{add-one}
use native.Mathlib.Omega.{arith}
use lib.ListN.{length, take, drop, get_or, set, length-set}
use lib.Seq.{length-take-le, take-length, take-suc, drop-cons, append_snoc, set_at, get_or-append-add, get_or-drop}
use Rattle.spans.specs.Parts.{splice}

-- after i of n turns: the first i elements of w, and then what d has from there on
pub record Front (w d : List ℕ) (n i : ℕ) (l : List ℕ) : Type 0 where
  pub turns : n ≡ length w
  pub fits : n ≤ length d
  pub few : i ≤ n
  pub long : length l ≡ length d
  pub same : l ≡ take i w ++ drop i d

pub front_none : {w d : List ℕ} {n : ℕ} → n ≡ length w → n ≤ length d → Front w d n 0 d
front_none t h = record { turns = t; fits = h; few = omega arith; long = refl; same = refl }

module _ {w d : List ℕ} {n i : ℕ} {l : List ℕ} (f : Front w d n i l) where
  head_length : length (take i w) ≡ i
  head_length = length-take-le i w (omega arith)

  -- what stands at the next place is still d's
  pub front_next : get_or l i 0 ≡ get_or d i 0
  front_next =
      let e : i ≡ length (take i w) + 0 = omega (arith, head_length) in
      ap (λ (m : List ℕ). get_or m i 0) f.same ∙ ap (λ (j : ℕ). get_or (take i w ++ drop i d) j 0) e
      ∙ get_or-append-add (take i w) (drop i d) 0 0 ∙ get_or-drop i d 0 0 ∙ ap (λ (j : ℕ). get_or d j 0) (add-zero i)

  pub front_more : {v : ℕ} → i < n → v ≡ get_or w i 0 → Front w d n (i + 1) (set l i v)
  front_more {v} h e =
      let hw : i < length w = omega arith in
      let hd : i < length d = omega arith in
      record {
        turns = f.turns;
        fits = f.fits;
        few = omega arith;
        long = length-set l i v ∙ f.long;
        same =
            rw (f.same, add-one i, e, take-suc w i 0 hw, drop-cons d i 0 hd)
            (set_at (take i w) (get_or d i 0) (drop (suc i) d) (get_or w i 0) i head_length
            ∙ sym (append_snoc (take i w) (get_or w i 0) (drop (suc i) d)));
      }

  pub front_done : n ≤ i → l ≡ splice 0 w d
  unfolding splice
  front_done h = let e : i ≡ length w = omega arith in f.same ∙ rw (e, take-length, zero-add)
