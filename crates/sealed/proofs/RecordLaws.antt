-- Laws of a record: how the code lays it out and looks at it, and its length.
use Rattle.std.proofs.Common.{◌≡◌, ℕ, ◌+◌, ◌-◌, ◌≤◌, List, [], ◌∷◌, ◌++◌, length, take, drop, replicate, get_or, ◌&&◌, eqb, Bool, cond, refl, sym, ap, ap₂, ◌∙◌, arith, length-append, length-drop, append_assoc}
use Rattle.std.proofs.Math.ListN.{length-replicate}
use lib.Pointwise.{pointwise}
use lib.Seq.{take_all}
use Rattle.spans.specs.Parts.{splice}
use Rattle.spans.specs.Bytes.{xor_bytes}
use Rattle.spans.proofs.PartsLaws.{splice-length, take-splice, splice_end}
use Rattle.sealed.specs.Cbc.{cbc}
use Rattle.sealed.proofs.ChainLaws.{through-length}
use Rattle.sealed.specs.declared.Seen.TheVariants.{Own, Other, NoPlace}
use Rattle.sealed.specs.Record.{place_block, fill_byte, filled, sealed, looked, names_place, place_named, whose}

pub place_block-length : (b p : ℕ) → length (place_block b p) ≡ 16
unfolding place_block
place_block-length b p = refl

-- the place block, the plain bytes after it, and the fill byte after them
pub laid :
    (b p : ℕ) (plain l : List ℕ) → length plain ≤ 256 → length l ≡ 272
    → splice (16 + length plain) (replicate (256 - length plain) fill_byte) (splice 16 plain (splice 0 (place_block b p) l)) ≡ place_block b p ++ filled plain
unfolding place_block filled
laid b p plain l h long =
    let front : List ℕ = b ∷ p ∷ replicate 14 0 in
    let rest : List ℕ = replicate (256 - length plain) fill_byte in
    let place : List ℕ = splice 0 front l in
    let place-long = splice-length 0 front l (omega (arith, long)) in
    let both-long = splice-length 16 plain place (omega (arith, h, long, place-long)) in
    splice_end (16 + length plain) rest (splice 16 plain place)
    (omega (arith, h, long, place-long, both-long, length-replicate {A = ℕ} (256 - length plain) fill_byte))
    ∙ ap (λ (m : List ℕ). m ++ rest)
    (take-splice 16 plain place (omega (arith, h, long, place-long))
    ∙ ap (λ (m : List ℕ). m ++ plain) (take-splice 0 front l (omega (arith, long))))
    ∙ append_assoc front plain rest

pub laid-length : (b p : ℕ) (plain : List ℕ) → length plain ≤ 256 → length (place_block b p ++ filled plain) ≡ 272
unfolding place_block filled
laid-length b p plain h =
    length-append (b ∷ p ∷ replicate 14 0) (plain ++ replicate (256 - length plain) fill_byte)
    ∙ omega (arith, length-append plain (replicate (256 - length plain) fill_byte), length-replicate {A = ℕ} (256 - length plain) fill_byte)

-- the look at a record is one at its first two bytes and one at the zeros after them
pub looked_split :
    (D : List ℕ → List ℕ) (b p : ℕ) (r w : List ℕ) → w ≡ D (take 16 r) → length w ≡ 16
    → looked D b p r ≡ (eqb (get_or w 0 0) b && (eqb (get_or w 1 0) p && pointwise eqb (take 14 (drop 2 w)) (replicate 14 0)))
unfolding looked place_block
looked_split D b p r w e long = ap (λ (m : List ℕ). pointwise eqb m (b ∷ p ∷ replicate 14 0)) (sym e) ∙ split w long
  where
    split :
        (w : List ℕ) → length w ≡ 16
        → pointwise eqb w (b ∷ p ∷ replicate 14 0) ≡ (eqb (get_or w 0 0) b && (eqb (get_or w 1 0) p && pointwise eqb (take 14 (drop 2 w)) (replicate 14 0)))
    split [] h = absurd (omega (arith, h))
    split (x ∷ []) h = absurd (omega (arith, h))
    split (x ∷ y ∷ m) h = ap (λ (k : List ℕ). eqb x b && (eqb y p && pointwise eqb k (replicate 14 0))) (sym (take_all 14 m (omega (arith, h))))

-- whose record it is, by the block w that its first one deciphers to
pub whose_split :
    (D : List ℕ → List ℕ) (b p : ℕ) (r w : List ℕ) → w ≡ D (take 16 r) → length w ≡ 16
    → let zeros : Bool = pointwise eqb (take 14 (drop 2 w)) (replicate 14 0) in
    whose D b p r ≡ cond (eqb (get_or w 0 0) b && (eqb (get_or w 1 0) p && zeros)) Own (cond zeros (Other (place_named w)) NoPlace)
unfolding whose names_place
whose_split D b p r w e long =
    let named : pointwise eqb (drop 2 w) (replicate 14 0) ≡ pointwise eqb (take 14 (drop 2 w)) (replicate 14 0) =
    ap (λ (m : List ℕ). pointwise eqb m (replicate 14 0)) (sym (take_all 14 (drop 2 w) (omega (arith, long, length-drop 2 w)))) in
    ap₂ (λ (m : List ℕ) (own : Bool). cond own Own (cond (pointwise eqb (drop 2 m) (replicate 14 0)) (Other (place_named m)) NoPlace)) (sym e)
    (looked_split D b p r w e long)
    ∙ ap
    (λ (zeros : Bool).
    cond (eqb (get_or w 0 0) b && (eqb (get_or w 1 0) p && pointwise eqb (take 14 (drop 2 w)) (replicate 14 0))) Own
    (cond zeros (Other (place_named w)) NoPlace))
    named

pub sealed-length :
    (E : List ℕ → List ℕ) (b p : ℕ) (plain : List ℕ) → ((l : List ℕ) → length (E l) ≡ 16) → length plain ≤ 256 → length (sealed E b p plain) ≡ 272
unfolding sealed cbc
sealed-length E b p plain wide h =
    let long = laid-length b p plain h in
    through-length (cbc E) (λ l c. E (xor_bytes l c)) (λ l c. E (xor_bytes l c)) (λ c l. refl) (λ c l n. refl) (λ l c hl hc. (wide (xor_bytes l c), wide (xor_bytes l c)))
    17 (replicate 16 0) (place_block b p ++ filled plain) refl (omega (arith, long))
    ∙ long
