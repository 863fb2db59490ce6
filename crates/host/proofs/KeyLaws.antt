-- Laws of a call with a key's bytes: where the key is taken it is the call under the key's schedule, and else it is refused by 1.
use Rattle.std.proofs.Common.{◌≡◌, ℕ, ◌/◌, ◌<◌, ◌≤◌, [], ◌∷◌, subst, ltb, true, false, Bool, not, List, length, cond, refl, sym, ap, ap₂, ◌∙◌, arith}
use Rattle.std.specs.Prelude.{Ok, Err}
use Rattle.spans.specs.Refusals.{Line, ◌when◌, given, leaves}
use Rattle.spans.proofs.RefusalLaws.{others, given_exactly}
use Rattle.twofish.specs.declared.Answer.{Answer}
use Rattle.twofish.specs.declared.Location.{Location}
use Rattle.twofish.specs.declared.Refusal.{Refusal}
use Rattle.twofish.specs.declared.Twofish.{Twofish}
use Rattle.twofish.specs.Answers.{nowhere, told, answer_at, answer, refusal_number, refused_answer}
use Rattle.twofish.specs.Schedule.{schedule, refused, SetUp, taken, padded, units, set_up, key_number, handed_back}
use Rattle.twofish.proofs.AnswerLaws.{never_done}
use Rattle.twofish.proofs.PaddingLaws.{taken_fits, padded_units}
use borrow.Author.Tests.{ltb-true}
use lib.Dec.{T}
use Rattle.boxful.specs.declared.ListAnswer.{ListAnswer}
use Rattle.boxful.specs.Boxful.{Judged, list_answer, listed}
use Rattle.host.specs.Host.{schedule_of, keyed, keyed_list}

-- a test by the number that it gives
passed : (b : Bool) → ◌≡◌ {A = ℕ} 0 (cond (not b) 1 0) → b ≡ true
passed true e = refl
passed false e = absurd (omega (arith, e))

failed : (b : Bool) (n : ℕ) → (n ≡ 0 → ⊥) → n ≡ cond (not b) 1 0 → (b ≡ false) × (n ≡ 1)
failed true n some e = absurd (some e)
failed false n some e = (refl, e)

-- a key that is taken, and one that is refused
module _ (key : List ℕ) where
  module _ (t : Twofish) (e : handed_back (Ok t) ≡ set_up key) where
    key_taken : taken (length key) ≡ true
    unfolding set_up key_number given handed_back answer_at
    key_taken = passed (taken (length key)) (ap (λ (u : SetUp). u.answer.number) e)

    its_schedule : t ≡ schedule_of key
    unfolding schedule_of handed_back
    its_schedule = ap (λ (u : SetUp). u.schedule) e

  key_refused : (e : Refusal) → handed_back (Err e) ≡ set_up key → (taken (length key) ≡ false) × (refused_answer e ≡ told 1 0 nowhere)
  unfolding set_up key_number given handed_back answer_at
  key_refused e h =
      let k = failed (taken (length key)) (refusal_number e) (λ z. never_done e (sym z)) (ap (λ (u : SetUp). u.answer.number) h) in
      (k.0, ap (λ (u : SetUp). u.answer) h ∙ ap (λ (b : Bool). answer (cond (not b) 1 0) 0) k.0)

  pub refused_by_one : (e : Refusal) → handed_back (Err e) ≡ set_up key → refusal_number e ≡ 1
  refused_by_one e h = ap (λ (a : Answer). a.number) (key_refused e h).1

-- a call
module _ (key : List ℕ) (number : Twofish → ℕ) where
  -- under a key that is taken, what is told of the schedule and the number is told of the key's and of the host's
  module _ (t : Twofish) (e : handed_back (Ok t) ≡ set_up key) where
    pub told_under : {X : Type 0} (tell : Twofish → ℕ → X) → tell t (number t) ≡ tell (schedule_of key) (keyed key number)
    unfolding keyed
    told_under tell =
        ap₂ tell (its_schedule key t e)
        (ap number (its_schedule key t e) ∙ sym (ap (λ (b : Bool). cond b (number (schedule_of key)) 1) (key_taken key t e)))

    pub answered_under :
        (place : Twofish → Location) (c : ℕ) (a : Answer) → a ≡ answer_at (place t) (number t) c → a ≡ answer_at (place (schedule_of key)) (keyed key number) c
    answered_under place c a h = h ∙ told_under (λ u n. answer_at (place u) n c)

    pub left_under : (made : Twofish → List ℕ) (l s : List ℕ) → s ≡ leaves (number t) (made t) l → s ≡ leaves (keyed key number) (made (schedule_of key)) l
    left_under made l s h = h ∙ told_under (λ u n. leaves n (made u) l)

  module _ (e : Refusal) (h : handed_back (Err e) ≡ set_up key) where
    first_number : 1 ≡ keyed key number
    unfolding keyed
    first_number = sym (ap (λ (c : Bool). cond c (number (schedule_of key)) 1) (key_refused key e h).0)

    -- what is told of number 1 is told of the host's
    pub told_refused : {X : Type 0} (tell : ℕ → X) → tell 1 ≡ tell (keyed key number)
    told_refused tell = ap tell first_number

    pub answered_refused : (l : Location) (c : ℕ) (a : Answer) → a ≡ refused_answer e → a ≡ answer_at l (keyed key number) c
    unfolding answer_at
    answered_refused l c a k = k ∙ (key_refused key e h).1 ∙ told_refused (λ n. answer_at l n c)

    pub left_refused : (x l : List ℕ) → l ≡ leaves (keyed key number) x l
    unfolding leaves
    left_refused x l = ap (λ (n : ℕ). leaves n x l) first_number

-- a list
module _ (key : List ℕ) (comes_to : Twofish → Judged) where
  module _ (t : Twofish) (e : handed_back (Ok t) ≡ set_up key) where
    its_list : comes_to t ≡ keyed_list key comes_to
    unfolding keyed_list
    its_list =
        ap comes_to (its_schedule key t e)
        ∙ sym (ap (λ (b : Bool). cond b (comes_to (schedule_of key)) record { number = 1; place = 0; held = nowhere }) (key_taken key t e))

    pub list_under : (c : ℕ) (a : ListAnswer) → a ≡ list_answer (comes_to t) c → a ≡ list_answer (keyed_list key comes_to) c
    list_under c a h = h ∙ ap (λ (j : Judged). list_answer j c) its_list

    pub list_left_under :
        (made : Twofish → List ℕ) (l s : List ℕ) → s ≡ leaves (comes_to t).number (made t) l
        → s ≡ leaves (keyed_list key comes_to).number (made (schedule_of key)) l
    list_left_under made l s h = h ∙ ap₂ (λ (j : Judged) (u : Twofish). leaves j.number (made u) l) its_list (its_schedule key t e)

  module _ (e : Refusal) (h : handed_back (Err e) ≡ set_up key) where
    first_list : record { number = 1; place = 0; held = nowhere } ≡ keyed_list key comes_to
    unfolding keyed_list
    first_list = sym (ap (λ (c : Bool). cond c (comes_to (schedule_of key)) record { number = 1; place = 0; held = nowhere }) (key_refused key e h).0)

    pub list_refused : (c : ℕ) (a : ListAnswer) → a ≡ listed (Err record { refusal = e; place = 0 }) → a ≡ list_answer (keyed_list key comes_to) c
    unfolding list_answer
    list_refused c a k =
        k
        ∙ ap (λ (x : Answer). record { number = x.number; count = 0; place = 0; bank = x.bank; page = x.page }) (key_refused key e h).1
        ∙ ap (λ (j : Judged). list_answer j c) first_list

    pub list_left_refused : (x l : List ℕ) → l ≡ leaves (keyed_list key comes_to).number x l
    unfolding leaves
    list_left_refused x l = ap (λ (j : Judged). leaves j.number x l) first_list

-- a key's schedule has a start that every call takes
pub start_taken : (key : List ℕ) → taken (length key) ≡ true → (schedule_of key).start ≤ 2
unfolding schedule_of set_up schedule
start_taken key e =
    let few : 2 ≤ units (padded key) = (padded_units key (taken_fits _ e).1).1 in
    subst (λ (t : Twofish). t.start ≤ 2) (ap (λ (b : Bool). cond b (schedule (padded key) (units (padded key))) refused) (sym e)) (omega (arith, few))

-- so a host's call, whose order begins with refusal 2 and has it only there, is never refused by 2
pub never_two :
    (key : List ℕ) (rest : Twofish → List Line) → ((t : Twofish) → T (others 2 (rest t)))
    → keyed key (λ t. given (2 when ltb 2 t.start ∷ rest t)) ≡ 2 → ⊥
unfolding keyed
never_two key rest once h = by (taken (length key)) refl h
  where
    by : (b : Bool) → taken (length key) ≡ b → cond b (given (2 when ltb 2 (schedule_of key).start ∷ rest (schedule_of key))) 1 ≡ 2 → ⊥
    by false e k = let z : ◌≡◌ {A = ℕ} 1 2 = k in omega (arith, z)
    by true e k =
        let high = ((given_exactly 2 (ltb 2 (schedule_of key).start) [] (rest (schedule_of key)) (λ z. omega (arith, z)) tt (once (schedule_of key))).0 k).1 in
        let above : 2 < (schedule_of key).start = ltb-true _ _ high in
        omega (arith, above, start_taken key e)
