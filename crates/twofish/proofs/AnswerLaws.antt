-- Laws of refusals and outcomes: each is given by document 01's number, and set-up's by what it hands back.
use Rattle.std.proofs.Common.{◌≡◌, Bool, true, false, cond, eqb, ℕ, zero, suc, refl, sym, ap, ap₂, ◌∙◌, arith}
use borrow.Author.Tests.{ne_eqb}
use Rattle.std.specs.Prelude.{Result, Ok, Err}
use Rattle.twofish.specs.Answers.{nowhere, told, answer_at, answer, refusal_number, refusal_location, refused_answer, answered, counted}
use Rattle.twofish.specs.Schedule.{SetUp, handed_back}
use Rattle.twofish.specs.declared.Answer.{Answer}
use Rattle.twofish.specs.declared.Location.{Location}
use Rattle.twofish.specs.declared.Twofish.{Twofish}
use Rattle.twofish.specs.declared.Refusal.{Refusal}
use Rattle.twofish.specs.declared.Refusal.TheVariants.{KeyLength, Start, BlockLength, Geometry, ImageLength, Place, Length, Record, Outside, TooMany, Elsewhere}

-- the refusal with a number and a place
numbered : ℕ → Location → Refusal
numbered zero l = KeyLength
numbered (suc zero) l = KeyLength
numbered (suc (suc zero)) l = Start
numbered (suc (suc (suc zero))) l = BlockLength
numbered (suc (suc (suc (suc zero)))) l = Geometry
numbered (suc (suc (suc (suc (suc zero))))) l = ImageLength
numbered (suc (suc (suc (suc (suc (suc zero)))))) l = Place
numbered (suc (suc (suc (suc (suc (suc (suc zero))))))) l = Length
numbered (suc (suc (suc (suc (suc (suc (suc (suc zero)))))))) l = Record
numbered (suc (suc (suc (suc (suc (suc (suc (suc (suc zero))))))))) l = Outside
numbered (suc (suc (suc (suc (suc (suc (suc (suc (suc (suc zero)))))))))) l = TooMany
numbered (suc (suc (suc (suc (suc (suc (suc (suc (suc (suc (suc n))))))))))) l = Elsewhere l

numbered-number : (e : Refusal) → numbered (refusal_number e) (refusal_location e) ≡ e
unfolding numbered
numbered-number KeyLength = refl
numbered-number Start = refl
numbered-number BlockLength = refl
numbered-number Geometry = refl
numbered-number ImageLength = refl
numbered-number Place = refl
numbered-number Length = refl
numbered-number Record = refl
numbered-number Outside = refl
numbered-number TooMany = refl
numbered-number (Elsewhere l) = refl

-- no two refusals have one number and one place, and none has 0
pub refusal-injective : (d e : Refusal) → refusal_number d ≡ refusal_number e → refusal_location d ≡ refusal_location e → d ≡ e
refusal-injective d e h k = sym (numbered-number d) ∙ ap₂ numbered h k ∙ numbered-number e

pub never_done : (e : Refusal) → 0 ≡ refusal_number e → ⊥
never_done KeyLength h = omega (arith, h)
never_done Start h = omega (arith, h)
never_done BlockLength h = omega (arith, h)
never_done Geometry h = omega (arith, h)
never_done ImageLength h = omega (arith, h)
never_done Place h = omega (arith, h)
never_done Length h = omega (arith, h)
never_done Record h = omega (arith, h)
never_done Outside h = omega (arith, h)
never_done TooMany h = omega (arith, h)
never_done (Elsewhere l) h = omega (arith, h)

-- a refusal counts 0
pub refusal_counts : (n c : ℕ) → (n ≡ 0 → ⊥) → answer n c ≡ told n 0 nowhere
unfolding answer_at
refusal_counts n c some = ap₂ (λ (b : Bool) (l : Location). told n (cond b c 0) l) (ne_eqb n 0 some) (by (eqb n 11))
  where
    by : (b : Bool) → cond b nowhere nowhere ≡ nowhere
    by true = refl
    by false = refl

-- the place in an answer
unfoldable pub place_in : Answer → Location
place_in a = record { bank = a.bank; page = a.page }

-- refusals that are answered alike are the same
pub refused_answer-injective : (d e : Refusal) → refused_answer d ≡ refused_answer e → d ≡ e
unfolding place_in
refused_answer-injective d e h = refusal-injective d e (ap (λ (a : Answer). a.number) h) (ap place_in h)

-- outcomes that are answered alike are the same
pub answered-injective : (r s : Result (Unit {0}) Refusal) → answered r ≡ answered s → r ≡ s
answered-injective (Ok u) (Ok v) h = refl
answered-injective (Ok u) (Err e) h = absurd (never_done e (ap (λ (a : Answer). a.number) h))
answered-injective (Err d) (Ok v) h = absurd (never_done d (sym (ap (λ (a : Answer). a.number) h)))
answered-injective (Err d) (Err e) h = ap (λ (x : Refusal). Err x) (refused_answer-injective d e h)

pub counted-injective : (r s : Result ℕ Refusal) → counted r ≡ counted s → r ≡ s
counted-injective (Ok m) (Ok n) h = ap (λ (a : Answer). Ok a.count) h
counted-injective (Ok m) (Err e) h = absurd (never_done e (ap (λ (a : Answer). a.number) h))
counted-injective (Err d) (Ok n) h = absurd (never_done d (sym (ap (λ (a : Answer). a.number) h)))
counted-injective (Err d) (Err e) h = ap (λ (x : Refusal). Err x) (refused_answer-injective d e h)

pub handed_back-injective : (r s : Result Twofish Refusal) → handed_back r ≡ handed_back s → r ≡ s
unfolding handed_back
handed_back-injective (Ok t) (Ok u) h = ap (λ (x : SetUp). Ok x.schedule) h
handed_back-injective (Ok t) (Err e) h = absurd (never_done e (ap (λ (x : SetUp). x.answer.number) h))
handed_back-injective (Err d) (Ok u) h = absurd (never_done d (sym (ap (λ (x : SetUp). x.answer.number) h)))
handed_back-injective (Err d) (Err e) h = ap (λ (x : Refusal). Err x) (refused_answer-injective d e (ap (λ (x : SetUp). x.answer) h))
