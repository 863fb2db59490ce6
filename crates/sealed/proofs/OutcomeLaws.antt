-- What a refused call answers and leaves, by its refusal, and what an answer says of a refusal and a count.
use Rattle.std.proofs.Common.{◌≡◌, ℕ, Bool, true, false, cond, eqb, List, refl, sym, ap, ◌∙◌}
use borrow.Author.Tests.{ne_eqb, eqb-true}
use Rattle.spans.specs.Refusals.{leaves}
use Rattle.spans.proofs.RefusalLaws.{refusal_leaves}
use Rattle.twofish.specs.declared.Answer.{Answer}
use Rattle.twofish.specs.declared.Location.{Location}
use Rattle.twofish.specs.declared.Refusal.{Refusal}
use Rattle.twofish.specs.Answers.{nowhere, told, answer_at, refusal_number, refusal_location, refused_answer}
use Rattle.twofish.proofs.AnswerLaws.{never_done, place_in}

-- the number of a refusal that is answered
pub refused_number : (e : Refusal) (l : Location) (n v : ℕ) → refused_answer e ≡ answer_at l n v → refusal_number e ≡ n
unfolding answer_at
refused_number e l n v h = ap (λ (a : Answer). a.number) h

-- and the place that it says
pub refused_place : (e : Refusal) (l : Location) (n v : ℕ) → refused_answer e ≡ answer_at l n v → refusal_location e ≡ cond (eqb n 11) l nowhere
unfolding answer_at place_in
refused_place e l n v h = ap place_in h

-- it is answered so whatever the call would have counted
pub recounted : (e : Refusal) (l : Location) (n v : ℕ) → refused_answer e ≡ answer_at l n v → (c : ℕ) → refused_answer e ≡ answer_at l n c
unfolding answer_at
recounted e l n v h c =
    let none : eqb n 0 ≡ false = ne_eqb n 0 (λ z. never_done e (sym (refused_number e l n v h ∙ z))) in
    let x : Location = cond (eqb n 11) l nowhere in
    h ∙ ap (λ (b : Bool). told n (cond b v 0) x) none ∙ sym (ap (λ (b : Bool). told n (cond b c 0) x) none)

-- the count of a call that is done
pub done_count : (l : Location) (c n v : ℕ) → told 0 c nowhere ≡ answer_at l n v → (0 ≡ n) × (c ≡ v)
unfolding answer_at
done_count l c n v h =
    let z : 0 ≡ n = ap (λ (a : Answer). a.number) h in
    (z, ap (λ (a : Answer). a.count) (h ∙ ap (λ (k : ℕ). answer_at l k v) (sym z)))

-- the place counts where 11 is answered, and only there
pub answer_at-same : (l m : Location) (n c : ℕ) → (n ≡ 11 → l ≡ m) → answer_at l n c ≡ answer_at m n c
unfolding answer_at
answer_at-same l m n c h = by (eqb n 11) refl
  where
    by : (b : Bool) → eqb n 11 ≡ b → told n (cond (eqb n 0) c 0) (cond b l nowhere) ≡ told n (cond (eqb n 0) c 0) (cond b m nowhere)
    by true e = ap (told n (cond (eqb n 0) c 0)) (h (eqb-true n 11 e))
    by false e = refl

module _ (e : Refusal) {n : ℕ} (h : refusal_number e ≡ n) where
  pub refused_leaves : (x l : List ℕ) → l ≡ leaves n x l
  refused_leaves x l = sym (refusal_leaves (refusal_number e) x l (λ z. never_done e (sym z))) ∙ ap (λ (m : ℕ). leaves m x l) h
