-- What a block direction answers and leaves, by the tests that its code makes: x is what a block that is taken becomes.
use Rattle.std.proofs.Common.{◌≡◌, ℕ, ◌<◌, ◌≤◌, List, length, eqb, subst, cond}
use Rattle.std.proofs.lemmas.Bool.{lt-ltb}
use borrow.Author.Tests.{le-ltb, eq-eqb, ne_eqb}
use Rattle.spans.specs.Refusals.{given}
use Rattle.twofish.specs.declared.Twofish.{Twofish}
use Rattle.twofish.specs.declared.Answer.{Answer}
use Rattle.twofish.specs.Answers.{nowhere, told, answer_at, answer}
use Rattle.block.specs.Block.{block_number}

-- the answer a and the bytes s afterwards are those of a call on l
abbrev pub Gives : Twofish → List ℕ → List ℕ → Answer → List ℕ → Type 0
Gives t l x a s = (a ≡ answer (block_number t l) 0) × (s ≡ cond (eqb (block_number t l) 0) x l)

-- a start that is taken, of a schedule that is kept
pub start_taken : (u t : Twofish) → u ≡ t → u.start ≤ 2 → t.start ≤ 2
start_taken u t e h = subst (λ (v : Twofish). v.start ≤ 2) e h

module _ (t : Twofish) (l x : List ℕ) where
  pub start_refused : 2 < t.start → Gives t l x (told 2 0 nowhere) l
  unfolding block_number given answer_at
  start_refused h = let e = lt-ltb _ _ h in (simp e, simp e)

  pub length_refused : t.start ≤ 2 → (length l ≡ 16 → ⊥) → Gives t l x (told 3 0 nowhere) l
  unfolding block_number given answer_at
  length_refused h n = let e = le-ltb _ _ h in let u = ne_eqb _ _ n in (simp (e, u), simp (e, u))

  pub accepted : (s : List ℕ) → t.start ≤ 2 → length l ≡ 16 → s ≡ x → Gives t l x (told 0 0 nowhere) s
  unfolding block_number given answer_at
  accepted s h n p = let e = le-ltb _ _ h in let u = eq-eqb _ _ n in (simp (e, u), simp (e, u) p)
