-- Laws of a list's judgement: as a whole, and patch by patch.
use Rattle.std.proofs.Common.{◌≡◌, ℕ, zero, suc, ◌+◌, ◌<◌, ◌≤◌, Bool, true, false, List, [], ◌∷◌, eqb, ltb, cond, length, drop, length-drop, get_or, refl, sym, ap, ◌∙◌, arith}
use Rattle.std.proofs.lemmas.Bool.{eqb-false}
use Rattle.std.proofs.lemmas.List.{at_drop_more, drop_all}
use borrow.Author.Tests.{eqb-true, ltb-false, ne_eqb, lt-ltb, le-ltb}
use lib.Seq.{length-take-le}
use Rattle.spans.specs.Refusals.{◌when◌, given}
use Rattle.spans.proofs.RefusalLaws.{given_none, given_other}
use Rattle.twofish.specs.declared.Twofish.{Twofish}
use Rattle.sealed.specs.declared.Geometry.{Geometry}
use Rattle.sealed.specs.Image.{image_refusals, image_number, access_number}
use Rattle.std.specs.Prelude.{Err}
use Rattle.twofish.specs.declared.Location.{Location}
use Rattle.twofish.specs.Answers.{nowhere, refusal_number, refusal_location}
use Rattle.twofish.proofs.AnswerLaws.{never_done}
use Rattle.sealed.proofs.ImageLaws.{image_refused, image_taken}
use Rattle.boxful.specs.declared.Patch.{Patch}
use Rattle.boxful.specs.declared.Refused.{Refused}
use Rattle.boxful.specs.Boxful.{Judged, written, outside, item_number, item_held, whole_number, first_refused, judged, list_answer, listed}

-- what stands beyond the end of a list
abbrev pub none : Patch
none = record { bank = 0; offset = 0; start = 0; length = 0 }

-- a choice by a number that is 0, and by one that is not
chosen : {X : Type 0} (n : ℕ) (x y : X) → n ≡ 0 → cond (eqb n 0) x y ≡ x
chosen n x y e = ap (λ (m : ℕ). cond (eqb m 0) x y) e

left_out : {X : Type 0} (n : ℕ) (x y : X) → (n ≡ 0 → ⊥) → cond (eqb n 0) x y ≡ y
left_out n x y some = ap (λ (b : Bool). cond b x y) (ne_eqb n 0 some)

module _ (f : Patch → ℕ) (g : Patch → Location) where
  module _ (ps : List Patch) (i : ℕ) (h : i < length ps) where
    pub one_taken : f (get_or ps i none) ≡ 0 → first_refused f g i (drop i ps) ≡ first_refused f g (i + 1) (drop (i + 1) ps)
    unfolding first_refused
    one_taken e =
        let next : suc i ≡ i + 1 = omega arith in
        at_drop_more (first_refused f g i) ps i none h
        ∙ chosen (f (get_or ps i none)) _ _ e
        ∙ ap (λ (k : ℕ). first_refused f g k (drop (i + 1) ps)) next

    pub one_refused : (f (get_or ps i none) ≡ 0 → ⊥) → first_refused f g i (drop i ps) ≡ record { number = f (get_or ps i none); place = i; held = g (get_or ps i none) }
    unfolding first_refused
    one_refused some = at_drop_more (first_refused f g i) ps i none h ∙ left_out (f (get_or ps i none)) _ _ some

  -- beyond the last there is none
  pub none_left : (i : ℕ) (ps : List Patch) → length ps ≤ i → first_refused f g i (drop i ps) ≡ record { number = 0; place = 0; held = nowhere }
  unfolding first_refused
  none_left i ps h = ap (first_refused f g i) (drop_all i ps h)

  -- none is refused only where each is taken
  pub all_taken : (i : ℕ) (ps : List Patch) → (first_refused f g i ps).number ≡ 0 → (j : ℕ) → j < length ps → f (get_or ps j none) ≡ 0
  unfolding first_refused
  all_taken i [] e j h = absurd (omega (arith, h))
  all_taken i (p ∷ ps) e j h = by (eqb (f p) 0) refl e (all_taken (suc i) ps) j h
    where
      by :
          (b : Bool) → eqb (f p) 0 ≡ b → (cond b (first_refused f g (suc i) ps) record { number = f p; place = i; held = g p }).number ≡ 0
          → ((first_refused f g (suc i) ps).number ≡ 0 → (k : ℕ) → k < length ps → f (get_or ps k none) ≡ 0)
          → (j : ℕ) → j < length (p ∷ ps) → f (get_or (p ∷ ps) j none) ≡ 0
      by true z e rest zero h = eqb-true _ _ z
      by true z e rest (suc j) h = rest e j (omega (arith, h))
      by false z e rest j h = absurd (eqb-false _ _ z e)

module _ (t : Twofish) (G : Geometry) (long n : ℕ) where
  pub whole_refused : (e : ℕ) → (e ≡ 0 → ⊥) → e ≡ image_number t G long → whole_number t G long n ≡ e
  unfolding whole_number
  whole_refused e some k = sym (image_refused t G long (10 when ltb 64 n ∷ []) e some k)

  module _ (k : 0 ≡ image_number t G long) where
    pub too_many : 64 < n → whole_number t G long n ≡ 10
    unfolding whole_number given
    too_many h = image_taken t G long (10 when ltb 64 n ∷ []) k ∙ simp (lt-ltb _ _ h)

    pub few_enough : n ≤ 64 → whole_number t G long n ≡ 0
    unfolding whole_number given
    few_enough h = image_taken t G long (10 when ltb 64 n ∷ []) k ∙ simp (le-ltb _ _ h)

  pub few_taken : whole_number t G long n ≡ 0 → n ≤ 64
  unfolding whole_number image_refusals
  few_taken e = ltb-false _ _ (given_none 9 _ [] (given_other 0 (image_refusals t G long) (10 when ltb 64 n ∷ []) tt e).1).0

module _ (t : Twofish) (G : Geometry) (image : List ℕ) (ps : List Patch) (lent : List ℕ) where
  pub judged_whole : (n : ℕ) → (n ≡ 0 → ⊥) → whole_number t G (length image) (length ps) ≡ n → judged t G image ps lent ≡ record { number = n; place = 0; held = nowhere }
  unfolding judged
  judged_whole n some e =
      left_out (whole_number t G (length image) (length ps)) _ _ (λ z. some (sym e ∙ z)) ∙ ap (λ (m : ℕ). record { number = m; place = 0; held = nowhere }) e

  pub judged_each : whole_number t G (length image) (length ps) ≡ 0 → judged t G image ps lent ≡ first_refused (item_number t G image lent) (item_held t G image lent) 0 ps
  unfolding judged
  judged_each e = chosen (whole_number t G (length image) (length ps)) _ _ e

  -- a list that is taken is so as a whole, and so is each of its patches
  pub judged_taken :
      (judged t G image ps lent).number ≡ 0
      → (whole_number t G (length image) (length ps) ≡ 0) × ((j : ℕ) → j < length ps → item_number t G image lent (get_or ps j none) ≡ 0)
  unfolding judged
  judged_taken e = by (eqb (whole_number t G (length image) (length ps)) 0) refl e
    where
      by :
          (b : Bool) → eqb (whole_number t G (length image) (length ps)) 0 ≡ b
          → (cond b (first_refused (item_number t G image lent) (item_held t G image lent) 0 ps) record { number = whole_number t G (length image) (length ps); place = 0; held = nowhere }).number ≡ 0
          → (whole_number t G (length image) (length ps) ≡ 0) × ((j : ℕ) → j < length ps → item_number t G image lent (get_or ps j none) ≡ 0)
      by true z e = (eqb-true _ _ z, all_taken (item_number t G image lent) (item_held t G image lent) 0 ps e)
      by false z e = absurd (eqb-false _ _ z e)

-- a patch that is taken has its bytes among those that are lent, and is taken by itself
pub item_taken :
    (t : Twofish) (G : Geometry) (image lent : List ℕ) (p : Patch) → item_number t G image lent p ≡ 0
    → (p.start + p.length ≤ length lent) × (0 ≡ access_number t G image p.bank p.offset p.length)
unfolding item_number outside
item_taken t G image lent p e = by (ltb (length lent) (p.start + p.length)) refl e
  where
    by :
        (b : Bool) → ltb (length lent) (p.start + p.length) ≡ b → cond b 9 (access_number t G image p.bank p.offset p.length) ≡ 0
        → (p.start + p.length ≤ length lent) × (0 ≡ access_number t G image p.bank p.offset p.length)
    by true z e = absurd (omega (arith, e))
    by false z e = (ltb-false _ _ z, sym e)

-- its bytes are as long as it says
pub written-length : (p : Patch) (lent : List ℕ) → p.start + p.length ≤ length lent → length (written p lent) ≡ p.length
unfolding written
written-length p lent h = length-take-le p.length (drop p.start lent) (omega (arith, h, length-drop p.start lent))

-- the answer to a list that is refused
pub refused_listed :
    (e : Refused) (j : Judged) (c : ℕ) → j ≡ record { number = refusal_number e.refusal; place = e.place; held = refusal_location e.refusal }
    → listed (Err e) ≡ list_answer j c
unfolding list_answer
refused_listed e j c h =
    let n : ℕ = refusal_number e.refusal in
    let l : Location = refusal_location e.refusal in
    ap (λ (k : ℕ). record { number = n; count = k; place = e.place; bank = l.bank; page = l.page }) (sym (left_out n c 0 (λ z. never_done e.refusal (sym z))))
    ∙ ap (λ (k : Judged). list_answer k c) (sym h)
