-- A series of calls goes on a state as on another that it is made from, where each call does.
use Rattle.std.proofs.Common.{◌≡◌, ℕ, List, [], ◌∷◌, eqb, cond, All, Bool, true, false, refl, ap, ap₂, ◌∙◌}
use Rattle.std.proofs.lemmas.List.Elements.{All-nil, All-cons, All-head, All-tail}
use borrow.Author.Tests.{eqb-true}
use Rattle.spans.specs.Refusals.{leaves}
use Rattle.twofish.specs.declared.Answer.{Answer}
use Rattle.twofish.specs.Answers.{answer_at}
use Rattle.sealed.proofs.OutcomeLaws.{answer_at-same}
use Rattle.history.specs.Calls.{Call, WritesBytes, Acts, Outcome, count, lent, outcome, after, outcomes, at_end}

-- by whether a call is done
when_done : {X : Type 0} (done : Bool) (x y z : X) → (done ≡ true → x ≡ y) → cond done x z ≡ cond done y z
when_done true x y z h = h refl
when_done false x y z h = refl

made_done : {S T : Type 0} (f : T → S) (done : Bool) (x : S) (y z : T) → (done ≡ true → x ≡ f y) → cond done x (f z) ≡ f (cond done y z)
made_done f true x y z h = h refl
made_done f false x y z h = refl

kept_done : {T : Type 0} (P : T → Type 0) (done : Bool) (y z : T) → (done ≡ true → P y) → P z → P (cond done y z)
kept_done P true y z h p = h refl
kept_done P false y z h p = p

-- acts A on states made by f from those of acts B, which keep to P
module _ {S T : Type 0} (A : Acts S) (B : Acts T) (f : T → S) (P : T → Type 0) where
  -- a call goes on f y as it goes on y
  pub record Follows (c : Call) (y : T) : Type 0 where
    pub number : A.number c (f y) ≡ B.number c y
    pub place : B.number c y ≡ 11 → A.place c (f y) ≡ B.place c y
    pub bytes : B.number c y ≡ 0 → A.bytes c (f y) ≡ B.bytes c y
    pub next : B.number c y ≡ 0 → A.next c (f y) ≡ f (B.next c y)
    pub keeps : B.number c y ≡ 0 → P (B.next c y)

  module _ (c : Call) (y : T) (h : Follows c y) where
    alike : outcome A c (f y) ≡ outcome B c y
    unfolding outcome leaves
    alike =
        ap₂ (λ (a : Answer) (l : List ℕ). record { answer = a; out = l })
        (ap (λ (n : ℕ). answer_at (A.place c (f y)) n (count c)) h.number ∙ answer_at-same _ _ (B.number c y) (count c) h.place)
        (ap (λ (n : ℕ). leaves n (A.bytes c (f y)) (lent c)) h.number ∙ when_done (eqb (B.number c y) 0) _ _ (lent c) (λ e. h.bytes (eqb-true _ _ e)))

    made : after A c (f y) ≡ f (after B c y)
    unfolding after
    made =
        ap (λ (n : ℕ). cond (eqb n 0) (A.next c (f y)) (f y)) h.number
        ∙ made_done f (eqb (B.number c y) 0) (A.next c (f y)) (B.next c y) y (λ e. h.next (eqb-true _ _ e))

    kept : P y → P (after B c y)
    unfolding after
    kept = kept_done P (eqb (B.number c y) 0) (B.next c y) y (λ e. h.keeps (eqb-true _ _ e))

  -- and so does a series
  pub record Goes (cs : List Call) (y : T) : Type 0 where
    pub same : outcomes A cs (f y) ≡ outcomes B cs y
    pub end : at_end A cs (f y) ≡ f (at_end B cs y)
    pub kept : P (at_end B cs y)

  module _ (follows : (c : Call) (y : T) → WritesBytes c → P y → Follows c y) where
    pub goes : (cs : List Call) (y : T) → All WritesBytes cs → P y → Goes cs y
    unfolding outcomes at_end
    goes [] y b p = record { same = refl; end = refl; kept = p }
    goes (c ∷ cs) y b p =
        let h : Follows c y = follows c y (All-head WritesBytes c cs b) p in
        let rest : Goes cs (after B c y) = goes cs (after B c y) (All-tail WritesBytes c cs b) (kept c y h p) in
        record {
          same = ap₂ (λ (o : Outcome) (os : List Outcome). o ∷ os) (alike c y h) (ap (outcomes A cs) (made c y h) ∙ rest.same);
          end = ap (at_end A cs) (made c y h) ∙ rest.end;
          kept = rest.kept;
        }

-- what holds of what comes of any call holds of all that comes of a series
pub All-outcomes :
    {S : Type 0} (acts : Acts S) (P : Outcome → Type 0) → ((c : Call) (y : S) → P (outcome acts c y)) → (cs : List Call) (y : S)
    → All P (outcomes acts cs y)
unfolding outcomes
All-outcomes acts P p [] y = All-nil P
All-outcomes acts P p (c ∷ cs) y = All-cons P (outcome acts c y) (outcomes acts cs (after acts c y)) (p c y) (All-outcomes acts P p cs (after acts c y))
