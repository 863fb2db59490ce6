-- Bytes past the used records make no difference, and stay as they are.
use Rattle.std.proofs.Common.{◌≡◌, ℕ, ◌+◌, ◌*◌, ◌≤◌, Bool, false, not, ◌||◌, eqb, ltb, List, [], ◌∷◌, length, take, drop, sym, ap, ap₂, ◌∙◌, arith}
use borrow.Author.Tests.{ltb-false}
use Rattle.spans.specs.Parts.{splice}
use Rattle.spans.specs.Refusals.{Line, ◌when◌, given}
use Rattle.spans.proofs.PartsLaws.{drop-splice}
use Rattle.settings.specs.declared.Reading.{Reading}
use Rattle.settings.specs.declared.Entry.{Entry}
use Rattle.settings.specs.Records.{laid, outside, record_at, state}
use Rattle.settings.specs.Answers.{refusals, read_number, read_answer, add_number, add_answer, written}
use Rattle.settings.specs.Calls.{Call, Add, Read, Adds, Reads, store_answer}
use Rattle.settings.proofs.RecordLaws.{laid-length}
use Rattle.settings.proofs.StateLaws.{state_same}
use Rattle.settings.proofs.AnswerLaws.{takes}
use Rattle.settings.proofs.FrontLaws.{same_record, same_said, same_broken}
use Rattle.settings.proofs.HoldsLaws.{read_alike}

-- two stores of one length with the same used bytes
module _ (s s' : List ℕ) (used : ℕ) (long : length s ≡ length s') (e : take (8 * used) s ≡ take (8 * used) s') where
  same_refusals : (out full : Bool) → refusals s used out full ≡ refusals s' used out full
  unfolding refusals
  same_refusals out full =
      ap₂ (λ (n : ℕ) (b : Bool). 16 when (not (eqb n 8192) || ltb 1024 used) ∷ 17 when b ∷ 18 when out ∷ 19 when full ∷ []) long
      (same_broken s s' used (same_record s s' used e))

  -- every call answers the same on both
  pub past_ignored : (c : Call) → store_answer c record { store = s; used = used } ≡ store_answer c record { store = s'; used = used }
  unfolding store_answer add_number read_number
  past_ignored (Add entry) = ap (λ (rs : List Line). Adds (add_answer (given rs) used)) (same_refusals (outside used entry) (eqb used 1024))
  past_ignored (Read version) =
      ap (λ (rs : List Line). Reads (read_answer (given rs) (state (record_at s) version))) (same_refusals (ltb used version) false)
      ∙ ap (λ (a : Reading). Reads a)
      (read_alike (given (refusals s' used (ltb used version) false)) _ _
      (λ z.
      let k = ltb-false _ _ (takes s' used (ltb used version) false (sym z)).inside in
      state_same _ _ version (λ i h. same_said s s' used e i (omega (arith, h, k)))))

-- and no byte past the record that is added changes
pub past_kept :
    (entry : Entry) (used : ℕ) (store : List ℕ) → 8 * used + 8 ≤ length store
    → drop (8 * used + 8) (written entry used store) ≡ drop (8 * used + 8) store
unfolding written
past_kept entry used store h =
    let on : 8 * used + 8 ≡ 8 * used + length (laid entry) = omega (arith, laid-length entry) in
    ap (λ (n : ℕ). drop n (splice (8 * used) (laid entry) store)) on
    ∙ drop-splice (8 * used) (laid entry) store (omega (arith, h, laid-length entry))
    ∙ ap (λ (n : ℕ). drop n store) (sym on)
