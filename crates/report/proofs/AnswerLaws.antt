-- What a report answers where it is done, and where it is refused.
use Rattle.std.proofs.Common.{◌≡◌, ℕ, Bool, false, List, cond, eqb, replicate, sym, ap, ap₂, ◌∙◌}
use Rattle.std.specs.Prelude.{Ok, Err}
use borrow.Author.Tests.{ne_eqb}
use Rattle.twofish.specs.declared.Refusal.{Refusal}
use Rattle.twofish.specs.Answers.{refusal_number}
use Rattle.twofish.proofs.AnswerLaws.{never_done}
use Rattle.report.specs.declared.Changes.{Changes}
use Rattle.report.specs.declared.Totals.{Totals}
use Rattle.report.specs.Report.{changes_answer, changes_told, totals_answer, totals_told}

not_done : (e : Refusal) (n : ℕ) → refusal_number e ≡ n → eqb n 0 ≡ false
not_done e n h = ne_eqb n 0 (λ z. never_done e (sym (h ∙ z)))

pub changes_refused : (e : Refusal) (n : ℕ) (masks : List ℕ) (c : ℕ) → refusal_number e ≡ n → changes_told (Err e) ≡ changes_answer n masks c
unfolding changes_answer
changes_refused e n masks c h =
    ap (λ (m : ℕ). record { number = m; changed = 0; masks = replicate 4 0 }) h
    ∙ sym (ap (λ (b : Bool). record { number = n; changed = cond b c 0; masks = cond b masks (replicate 4 0) }) (not_done e n h))

pub changes_done : (r : Changes) (n : ℕ) (masks : List ℕ) (c : ℕ) → 0 ≡ n → r.masks ≡ masks → r.changed ≡ c → changes_told (Ok r) ≡ changes_answer n masks c
unfolding changes_answer
changes_done r n masks c h m k =
    ap₂ (λ (l : List ℕ) (i : ℕ). record { number = 0; changed = i; masks = l }) m k
    ∙ ap (λ (i : ℕ). record { number = i; changed = cond (eqb i 0) c 0; masks = cond (eqb i 0) masks (replicate 4 0) }) h

module _ (a b c : ℕ) where
  pub totals_refused : (e : Refusal) (n : ℕ) → refusal_number e ≡ n → totals_told (Err e) ≡ totals_answer n a b c
  unfolding totals_answer
  totals_refused e n h =
      ap (λ (m : ℕ). record { number = m; same = 0; changed = 0; unreadable = 0 }) h
      ∙ sym (ap (λ (d : Bool). record { number = n; same = cond d a 0; changed = cond d b 0; unreadable = cond d c 0 }) (not_done e n h))

  pub totals_done : (r : Totals) (n : ℕ) → 0 ≡ n → r.same ≡ a → r.changed ≡ b → r.unreadable ≡ c → totals_told (Ok r) ≡ totals_answer n a b c
  unfolding totals_answer
  totals_done r n h p q s =
      ap (λ (i : ℕ). record { number = 0; same = i; changed = r.changed; unreadable = r.unreadable }) p
      ∙ ap₂ (λ (i j : ℕ). record { number = 0; same = a; changed = i; unreadable = j }) q s
      ∙ ap (λ (i : ℕ). record { number = i; same = cond (eqb i 0) a 0; changed = cond (eqb i 0) b 0; unreadable = cond (eqb i 0) c 0 }) h
