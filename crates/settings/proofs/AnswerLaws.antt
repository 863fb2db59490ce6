-- Laws of refusals and answers: outcomes that are answered alike are the same, and what no refusal says.
use Rattle.std.proofs.Common.{◌≡◌, ℕ, ◌+◌, ◌≤◌, Bool, false, eqb, cond, List, length, refl, sym, ap, ap₂, ◌∙◌, arith}
use Rattle.std.specs.Prelude.{Result, Ok, Err}
use borrow.Author.Tests.{ne_eqb, eqb-true, ltb-false, not-false}
use Rattle.spans.specs.Refusals.{given, leaves}
use Rattle.spans.proofs.RefusalLaws.{given_zero, refusal_leaves}
use Rattle.settings.specs.declared.Refusal.{Refusal}
use Rattle.settings.specs.declared.Refusal.TheVariants.{Store, Layout, Outside, Full}
use Rattle.settings.specs.declared.Refused.{Refused}
use Rattle.settings.specs.declared.Added.{Added}
use Rattle.settings.specs.declared.Reading.{Reading}
use Rattle.settings.specs.Records.{broken, zeros}
use Rattle.settings.specs.Answers.{refusal_number, refusals, add_answer, added, read_answer, reading}
use Rattle.settings.proofs.RecordLaws.{neither}

-- the refusal with a number
numbered : ℕ → Refusal
numbered n = cond (eqb n 16) Store (cond (eqb n 17) Layout (cond (eqb n 18) Outside Full))

numbered-number : (e : Refusal) → numbered (refusal_number e) ≡ e
unfolding numbered
numbered-number Store = refl
numbered-number Layout = refl
numbered-number Outside = refl
numbered-number Full = refl

-- no two refusals have one number, and none has 0
refusal_number-injective : (d e : Refusal) → refusal_number d ≡ refusal_number e → d ≡ e
refusal_number-injective d e h = sym (numbered-number d) ∙ ap numbered h ∙ numbered-number e

never_done : (e : Refusal) → refusal_number e ≡ 0 → ⊥
never_done Store h = omega (arith, h)
never_done Layout h = omega (arith, h)
never_done Outside h = omega (arith, h)
never_done Full h = omega (arith, h)

-- outcomes that are answered alike are the same
pub added-injective : (r s : Result ℕ Refused) → added r ≡ added s → r ≡ s
added-injective (Ok m) (Ok n) h = ap (λ (a : Added). Ok a.used) h
added-injective (Ok m) (Err e) h = absurd (never_done e.refusal (sym (ap (λ (a : Added). a.number) h)))
added-injective (Err d) (Ok n) h = absurd (never_done d.refusal (ap (λ (a : Added). a.number) h))
added-injective (Err d) (Err e) h =
    ap₂ (λ (x : Refusal) (u : ℕ). Err record { refusal = x; used = u })
    (refusal_number-injective d.refusal e.refusal (ap (λ (a : Added). a.number) h)) (ap (λ (a : Added). a.used) h)

pub reading-injective : (r s : Result (List ℕ) Refusal) → reading r ≡ reading s → r ≡ s
reading-injective (Ok u) (Ok v) h = ap (λ (a : Reading). Ok a.values) h
reading-injective (Ok u) (Err e) h = absurd (never_done e (sym (ap (λ (a : Reading). a.number) h)))
reading-injective (Err d) (Ok v) h = absurd (never_done d (ap (λ (a : Reading). a.number) h))
reading-injective (Err d) (Err e) h = ap (λ (x : Refusal). Err x) (refusal_number-injective d e (ap (λ (a : Reading). a.number) h))

-- what a call is that no refusal is given to
pub record Taken (store : List ℕ) (used : ℕ) (out full : Bool) : Type 0 where
  pub long : length store ≡ 8192
  pub few : used ≤ 1024
  pub whole : broken used store ≡ false
  pub inside : out ≡ false
  pub room : full ≡ false

pub takes : (store : List ℕ) (used : ℕ) (out full : Bool) → 0 ≡ given (refusals store used out full) → Taken store used out full
unfolding refusals
takes store used out full e =
    let h = (given_zero (refusals store used out full) tt).0 (sym e) in
    let k = neither _ _ h.0 in
    record { long = eqb-true _ _ (not-false _ k.0); few = ltb-false _ _ k.1; whole = h.1.0; inside = h.1.1.0; room = h.1.1.1.0 }

-- what a refused call answers and leaves
module _ (e : Refusal) {n : ℕ} (h : refusal_number e ≡ n) where
  refuses : eqb (refusal_number e) 0 ≡ false
  refuses = ne_eqb (refusal_number e) 0 (never_done e)

  pub refused_added : (used handed : ℕ) → handed ≡ used → record { number = refusal_number e; used = handed } ≡ add_answer n used
  unfolding add_answer
  refused_added used handed k =
      ap (λ (u : ℕ). record { number = refusal_number e; used = u }) (k ∙ sym (ap (λ (b : Bool). cond b (used + 1) used) refuses))
      ∙ ap (λ (m : ℕ). record { number = m; used = cond (eqb m 0) (used + 1) used }) h

  pub refused_leaves : (x l : List ℕ) → l ≡ leaves n x l
  refused_leaves x l = sym (refusal_leaves (refusal_number e) x l (never_done e)) ∙ ap (λ (m : ℕ). leaves m x l) h

  pub refused_reading : (values : List ℕ) → record { number = refusal_number e; values = zeros } ≡ read_answer n values
  unfolding read_answer
  refused_reading values =
      ap (λ (u : List ℕ). record { number = refusal_number e; values = u }) (sym (ap (λ (b : Bool). cond b values zeros) refuses))
      ∙ ap (λ (m : ℕ). record { number = m; values = cond (eqb m 0) values zeros }) h
