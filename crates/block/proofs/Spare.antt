-- S bytes beyond those that start calls for make no difference to any answer.
use Rattle.std.proofs.Common.{◌≡◌, ℕ, ◌+◌, ◌-◌, ◌*◌, ◌<◌, List, get_or, take, sym, ap, ◌∙◌, arith}
use Rattle.std.proofs.lemmas.List.{get_or-take}
use Rattle.twofish.specs.H.{h}
use Rattle.twofish.specs.Lists.{word_at}
use Rattle.twofish.specs.declared.Twofish.{Twofish}
use Rattle.twofish.proofs.ListLaws.{listed_same}
use Rattle.block.specs.Rounds.{enciphered_words, deciphered_words}
use Rattle.block.specs.Block.{s_words, s_list, g, subkey, words_of, block_of, enciphered, deciphered}

-- two lists of S bytes that agree as far as start calls for
module _ (s u : List ℕ) (start : ℕ) (same : take (4 * s_words start) s ≡ take (4 * s_words start) u) where
  at : (i : ℕ) → i < 4 * s_words start → get_or s i 0 ≡ get_or u i 0
  at i h =
      sym (get_or-take (4 * s_words start) s i 0 h) ∙ ap (λ (l : List ℕ). get_or l i 0) same ∙ get_or-take (4 * s_words start) u i 0 h

  word : (j : ℕ) → j < s_words start → word_at s j ≡ word_at u j
  unfolding word_at
  word j h =
      rw (at (4 * j) (omega arith), at (4 * j + 1) (omega arith), at (4 * j + 2) (omega arith), at (4 * j + 3) (omega arith))

  list : s_list s start ≡ s_list u start
  unfolding s_list
  list = listed_same _ _ (s_words start) (λ i h. word (s_words start - 1 - i) (omega arith))

  pub spare_g : g s start ≡ g u start
  unfolding g
  spare_g = ap {B = ℕ → ℕ} (λ (l : List ℕ). λ (X : ℕ). h X l) list

-- a schedule with other S bytes there
module _ (t : Twofish) (u l : List ℕ) (same : take (4 * s_words t.start) t.s ≡ take (4 * s_words t.start) u) where
  pub spare_enciphered : enciphered t l ≡ enciphered (record t { s = u }) l
  unfolding enciphered
  spare_enciphered =
      ap (λ (f : ℕ → ℕ). block_of (enciphered_words f (subkey t.k) (words_of l))) (spare_g t.s u t.start same)

  pub spare_deciphered : deciphered t l ≡ deciphered (record t { s = u }) l
  unfolding deciphered
  spare_deciphered =
      ap (λ (f : ℕ → ℕ). block_of (deciphered_words f (subkey t.k) (words_of l))) (spare_g t.s u t.start same)
