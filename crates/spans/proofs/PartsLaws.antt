-- Laws of parts of a list and of a list with a part replaced.
use mathlib.Core.Path.{◌≡◌, refl, sym, ap, ap₂, ◌∙◌}
use mathlib.Core.List.{List, ◌++◌, append_assoc, append-nil}
use Prim.Native.Nat.{ℕ, ◌+◌, ◌≤◌}
use native.Mathlib.Nat.{zero-add}
use native.Mathlib.Omega.{arith}
use borrow.Rule.Slice.PartMut.{put_mid}
use lib.ListN.{length, take, drop, replicate, length-append, length-drop, take-append-drop}
use lib.Seq.{length-take-le, take_at, drop_at, take_all, take-add, drop-drop, drop-length, drop-append-le, take-append-add, take-append-le, take-take}
use Rattle.spans.specs.Parts.{splice}

module _ (o : ℕ) (vs l : List ℕ) (fits : o + length vs ≤ length l) where
  head_length : length (take o l) ≡ o
  head_length = length-take-le o l (omega arith)

  written_length : length (take o l ++ vs) ≡ o + length vs
  written_length = length-append (take o l) vs ∙ omega (arith, head_length)

  pub splice-length : length (splice o vs l) ≡ length l
  unfolding splice
  splice-length =
      length-append (take o l) (vs ++ drop (o + length vs) l)
      ∙ omega (arith, head_length, length-append vs (drop (o + length vs) l), length-drop (o + length vs) l)

  -- up to the end of what is written
  pub take-splice : take (o + length vs) (splice o vs l) ≡ take o l ++ vs
  unfolding splice
  take-splice =
      rw (← append_assoc (take o l) vs (drop (o + length vs) l))
      (take_at (take o l ++ vs) (drop (o + length vs) l) (o + length vs) written_length)

  -- from there on
  pub drop-splice : drop (o + length vs) (splice o vs l) ≡ drop (o + length vs) l
  unfolding splice
  drop-splice =
      rw (← append_assoc (take o l) vs (drop (o + length vs) l))
      (drop_at (take o l ++ vs) (drop (o + length vs) l) (o + length vs) written_length)

  -- up to within what is written
  pub take_within : (n : ℕ) → n ≤ length vs → take (o + n) (splice o vs l) ≡ take o l ++ take n vs
  unfolding splice
  take_within n h =
      let rest : List ℕ = vs ++ drop (o + length vs) l in
      ap (λ (k : ℕ). take (k + n) (take o l ++ rest)) (sym head_length)
      ∙ take-append-add (take o l) rest n
      ∙ ap (λ (r : List ℕ). take o l ++ r) (take-append-le n vs (drop (o + length vs) l) h)

  -- nothing before what is written changes
  pub take_before : (n : ℕ) → n ≤ o → take n (splice o vs l) ≡ take n l
  unfolding splice
  take_before n h =
      take-append-le n (take o l) (vs ++ drop (o + length vs) l) (omega (arith, head_length)) ∙ take-take n o l h

-- all of a list is replaced
pub splice_whole : (vs l : List ℕ) → length vs ≡ length l → splice 0 vs l ≡ vs
unfolding splice
splice_whole vs l h = rw (zero-add, h, drop-length) (append-nil vs)

-- a part replaced by what is there
pub splice_same : (o n : ℕ) (l : List ℕ) → o + n ≤ length l → splice o (take n (drop o l)) l ≡ l
unfolding splice
splice_same o n l h =
    let long : length (take n (drop o l)) ≡ n = length-take-le n (drop o l) (omega (arith, h, length-drop o l)) in
    ap (λ (k : ℕ). take o l ++ (take n (drop o l) ++ drop (o + k) l)) long
    ∙ ap (λ (r : List ℕ). take o l ++ (take n (drop o l) ++ r)) (sym (drop-drop n o l))
    ∙ ap (λ (r : List ℕ). take o l ++ r) (take-append-drop n (drop o l))
    ∙ take-append-drop o l

-- a list is replaced from o to its end
pub splice_end : (o : ℕ) (vs l : List ℕ) → o + length vs ≡ length l → splice o vs l ≡ take o l ++ vs
unfolding splice
splice_end o vs l h = rw (h, drop-length, append-nil) refl

-- a block of 16 as it is taken by value
pub block_whole : (l : List ℕ) → length l ≡ 16 → splice 0 (take 16 l) (replicate 16 0) ≡ l
block_whole l h = ap (λ (m : List ℕ). splice 0 m (replicate 16 0)) (take_all 16 l (omega arith)) ∙ splice_whole l (replicate 16 0) h

-- what a part of a lent slice that was lent on leaves is a splice
pub mid_splice : (o n : ℕ) (vs l : List ℕ) → length vs ≡ n → put_mid o n l vs ≡ splice o vs l
unfolding splice
mid_splice o n vs l e = rw (drop-drop n o l, e)

-- what is laid over a list after its first k elements is laid over the rest
pub splice_after : (k q : ℕ) (vs l : List ℕ) → splice (k + q) vs l ≡ take k l ++ splice q vs (drop k l)
unfolding splice
splice_after k q vs l =
    let on : k + q + length vs ≡ k + (q + length vs) = omega arith in
    ap₂ (λ (f r : List ℕ). f ++ (vs ++ r)) (take-add k q l) (ap (λ (n : ℕ). drop n l) on ∙ sym (drop-drop (q + length vs) k l))
    ∙ append_assoc (take k l) (take q (drop k l)) (vs ++ drop (q + length vs) (drop k l))

-- what lies within the front of a list
pub front_part : (n q : ℕ) (u w : List ℕ) → q + n ≤ length u → take n (drop q (u ++ w)) ≡ take n (drop q u)
front_part n q u w h =
    ap (take n) (drop-append-le q u w (omega (arith, h))) ∙ take-append-le n (drop q u) w (omega (arith, h, length-drop q u))
