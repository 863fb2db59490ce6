-- The refusals of a report: what they say of its two images, and how each image's own refusals decide them.
use Rattle.std.proofs.Common.{◌≡◌, ℕ, ◌*◌, ◌<◌, ◌≤◌, Bool, true, false, not, ◌&&◌, cond, eqb, ltb, List, [], ◌∷◌, refl, sym, ap, ◌∙◌, arith}
use borrow.Author.Tests.{ltb-false, eqb-true, not-false, lt-ltb, le-ltb}
use Rattle.spans.specs.Refusals.{Line, ◌when◌, given}
use Rattle.spans.proofs.RefusalLaws.{NoneHolds, given_none, given_after, given_kept, given_exactly, given_zero}
use Rattle.twofish.specs.declared.Twofish.{Twofish}
use Rattle.sealed.specs.declared.Geometry.{Geometry}
use Rattle.sealed.specs.Image.{in_range, image_length, image_refusals, image_number}
use Rattle.sealed.proofs.ImageLaws.{both, few_records}
use Rattle.report.specs.Report.{report_refusals, report_number, bank_number}

-- the refusals of the old image, and then those of the new
pub report_number-judged : (t : Twofish) (G : Geometry) (old new : ℕ) → report_number t G old new ≡ cond (eqb (image_number t G old) 0) (image_number t G new) (image_number t G old)
unfolding report_number report_refusals image_number image_refusals given
report_number-judged t G old new = by (ltb 2 t.start) (not (in_range G)) (eqb old (image_length G)) (eqb new (image_length G))
  where
    by :
        (a b c d : Bool)
        → given (2 when a ∷ 4 when b ∷ 5 when not (c && d) ∷ [])
        ≡ cond (eqb (given (2 when a ∷ 4 when b ∷ 5 when not c ∷ [])) 0) (given (2 when a ∷ 4 when b ∷ 5 when not d ∷ [])) (given (2 when a ∷ 4 when b ∷ 5 when not c ∷ []))
    by true b c d = refl
    by false true c d = refl
    by false false true true = refl
    by false false true false = refl
    by false false false d = refl

-- what holds of two images that are taken
pub record Taken (t : Twofish) (G : Geometry) (old new : ℕ) : Type 0 where
  pub start : t.start ≤ 2
  pub geometry : in_range G ≡ true
  pub old_whole : old ≡ image_length G
  pub new_whole : new ≡ image_length G
  pub few : G.pages * G.banks ≤ 65536

pub taken : (t : Twofish) (G : Geometry) (old new : ℕ) → report_number t G old new ≡ 0 → Taken t G old new
unfolding report_number report_refusals
taken t G old new e =
    let a = given_none 1 _ _ e in
    let b = given_none 3 _ _ a.1 in
    let c = given_none 4 _ _ b.1 in
    let ranged = not-false _ b.0 in
    let lengths = both _ _ (not-false _ c.0) in
    record {
      start = ltb-false _ _ a.0;
      geometry = ranged;
      old_whole = eqb-true _ _ lengths.0;
      new_whole = eqb-true _ _ lengths.1;
      few = few_records G ranged;
    }

-- a report on a bank is refused as a report on the images is, and then by its bank
module _ (t : Twofish) (G : Geometry) (old new bank : ℕ) where
  pub bank_refused : (e : ℕ) → (e ≡ 0 → ⊥) → e ≡ report_number t G old new → e ≡ bank_number t G old new bank
  unfolding report_number bank_number
  bank_refused e some k = k ∙ sym (given_kept (report_refusals t G old new) (6 when not (ltb bank G.banks) ∷ []) (λ z. some (k ∙ z)))

  module _ (k : report_number t G old new ≡ 0) where
    bank_decides : bank_number t G old new bank ≡ given (6 when not (ltb bank G.banks) ∷ [])
    unfolding report_number bank_number report_refusals
    bank_decides = given_after (report_refusals t G old new) (6 when not (ltb bank G.banks) ∷ []) ((given_zero (report_refusals t G old new) tt).0 k)

    pub no_bank : G.banks ≤ bank → 6 ≡ bank_number t G old new bank
    unfolding given
    no_bank h = sym (bank_decides ∙ ap (λ (b : Bool). cond (not b) 6 0) (le-ltb bank G.banks h))

    pub bank_taken : bank < G.banks → 0 ≡ bank_number t G old new bank
    unfolding given
    bank_taken h = sym (bank_decides ∙ ap (λ (b : Bool). cond (not b) 6 0) (lt-ltb bank G.banks h))

-- a refusal by a number: the condition holds and none before it does
abbrev pub FirstOf : ℕ → Bool → List Line → ℕ → Type 0
FirstOf n holds before given_number = (given_number ≡ n → NoneHolds before × (holds ≡ true)) × (NoneHolds before → holds ≡ true → given_number ≡ n)

-- each refusal of a report on a bank is given exactly where it is the first
module _ (t : Twofish) (G : Geometry) (old new bank : ℕ) where
  abbrev two : Line
  two = 2 when ltb 2 t.start

  abbrev four : Line
  four = 4 when not (in_range G)

  abbrev five : Line
  five = 5 when not (eqb old (image_length G) && eqb new (image_length G))

  abbrev six : Line
  six = 6 when not (ltb bank G.banks)

  pub bank_2 : FirstOf 2 (ltb 2 t.start) [] (bank_number t G old new bank)
  unfolding bank_number report_refusals
  bank_2 = given_exactly 2 (ltb 2 t.start) [] (four ∷ five ∷ six ∷ []) (λ z. absurd (omega (arith, z))) tt tt

  pub bank_4 : FirstOf 4 (not (in_range G)) (two ∷ []) (bank_number t G old new bank)
  unfolding bank_number report_refusals
  bank_4 = given_exactly 4 (not (in_range G)) (two ∷ []) (five ∷ six ∷ []) (λ z. absurd (omega (arith, z))) tt tt

  pub bank_5 : FirstOf 5 (not (eqb old (image_length G) && eqb new (image_length G))) (two ∷ four ∷ []) (bank_number t G old new bank)
  unfolding bank_number report_refusals
  bank_5 = given_exactly 5 _ (two ∷ four ∷ []) (six ∷ []) (λ z. absurd (omega (arith, z))) tt tt

  pub bank_6 : FirstOf 6 (not (ltb bank G.banks)) (two ∷ four ∷ five ∷ []) (bank_number t G old new bank)
  unfolding bank_number report_refusals
  bank_6 = given_exactly 6 (not (ltb bank G.banks)) (two ∷ four ∷ five ∷ []) [] (λ z. absurd (omega (arith, z))) tt tt

  -- and none exactly where none holds
  pub bank_none :
      (bank_number t G old new bank ≡ 0 → NoneHolds (two ∷ four ∷ five ∷ six ∷ [])) × (NoneHolds (two ∷ four ∷ five ∷ six ∷ []) → bank_number t G old new bank ≡ 0)
  unfolding bank_number report_refusals
  bank_none = given_zero (two ∷ four ∷ five ∷ six ∷ []) tt

  -- the same of the totals, which no bank refuses
  pub report_2 : FirstOf 2 (ltb 2 t.start) [] (report_number t G old new)
  unfolding report_number report_refusals
  report_2 = given_exactly 2 (ltb 2 t.start) [] (four ∷ five ∷ []) (λ z. absurd (omega (arith, z))) tt tt

  pub report_4 : FirstOf 4 (not (in_range G)) (two ∷ []) (report_number t G old new)
  unfolding report_number report_refusals
  report_4 = given_exactly 4 (not (in_range G)) (two ∷ []) (five ∷ []) (λ z. absurd (omega (arith, z))) tt tt

  pub report_5 : FirstOf 5 (not (eqb old (image_length G) && eqb new (image_length G))) (two ∷ four ∷ []) (report_number t G old new)
  unfolding report_number report_refusals
  report_5 = given_exactly 5 _ (two ∷ four ∷ []) [] (λ z. absurd (omega (arith, z))) tt tt

  pub report_none : (report_number t G old new ≡ 0 → NoneHolds (two ∷ four ∷ five ∷ [])) × (NoneHolds (two ∷ four ∷ five ∷ []) → report_number t G old new ≡ 0)
  unfolding report_number report_refusals
  report_none = given_zero (two ∷ four ∷ five ∷ []) tt
