-- Each public function's promise admits one outcome.
use Rattle.std.proofs.Common.{sym, ap, ◌∙◌}
use Rattle.std.specs.Prelude.{Ok, Err}
use Rattle.words.proofs.Outcome.{OneResult, OneOutcome}
use Rattle.twofish.specs.declared.Refusal.{Refusal}
use Rattle.twofish.proofs.AnswerLaws.{answered-injective}
use Rattle.block.proofs.encipher.Reads as encipher
use Rattle.block.proofs.decipher.Reads as decipher
use Rattle.block.proofs.WordsTryFromRefSliceU8.try_from.Reads as words_from
use Rattle.block.proofs.ArrayU816FromWords.from.Reads as block_from
use Rattle.block.specs.declared.Words.{Words}

pub encipher_one : OneOutcome encipher.Post (λ κ s. s.1.0.now)
encipher_one κ a r r' s s' p p' = (answered-injective r r' (p.0 ∙ sym p'.0), p.1 ∙ sym p'.1)

pub decipher_one : OneOutcome decipher.Post (λ κ s. s.1.0.now)
decipher_one κ a r r' s s' p p' = (answered-injective r r' (p.0 ∙ sym p'.0), p.1 ∙ sym p'.1)

pub words_from_one : OneResult words_from.Post
words_from_one κ a (Ok w) (Ok w') s s' p p' = ap (λ (x : Words). Ok x) (p.1 ∙ sym p'.1)
words_from_one κ a (Ok w) (Err e) s s' p p' = absurd (p'.0 p.0)
words_from_one κ a (Err e) (Ok w) s s' p p' = absurd (p.0 p'.0)
words_from_one κ a (Err e) (Err e') s s' p p' = ap (λ (x : Refusal). Err x) (p.1 ∙ sym p'.1)

pub block_from_one : OneResult block_from.Post
block_from_one κ a r r' s s' p p' = p ∙ sym p'
