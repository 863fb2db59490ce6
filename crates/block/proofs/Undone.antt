-- A block that is enciphered and deciphered under a schedule is the block again, and the reverse: for every schedule, whether it came from a key or not.
use Rattle.std.proofs.Common.{◌≡◌, ℕ, ◌+◌, ◌*◌, ◌^◌, ◌<◌, List, [], ◌∷◌, ◌++◌, length, get_or, take, drop, sym, ap, ap₂, ◌∙◌, arith, lit<}
use Rattle.std.proofs.lemmas.List.{take-append-drop, drop-drop, take_all, length-drop}
use Rattle.words.specs.Word.{word_of, bytes_of}
use Rattle.words.proofs.Bytes.{word_bytes}
use Rattle.spans.specs.Bytes.{Bytes}
use Rattle.twofish.specs.Lists.{word_at}
use Rattle.twofish.specs.declared.Twofish.{Twofish}
use Rattle.twofish.proofs.ListLaws.{part_bytes}
use Rattle.block.specs.declared.Words.{Words}
use Rattle.block.specs.Rounds.{enciphered_words, deciphered_words}
use Rattle.block.specs.Block.{g, subkey, words_of, block_of, enciphered, deciphered, Schedule}
use Rattle.block.proofs.InverseLaws.{AreWords, enciphered-words, deciphered-words, deciphered-enciphered, enciphered-deciphered}

-- four bytes make a word
word_of-lt : (a b c d : ℕ) → a < 256 → b < 256 → c < 256 → d < 256 → word_of (a ∷ b ∷ c ∷ d ∷ []) < 2 ^ 32
unfolding word_of
word_of-lt a b c d ha hb hc hd = omega arith

words_of-words : (l : List ℕ) → ((i : ℕ) → get_or l i 0 < 256) → AreWords (words_of l)
unfolding words_of word_at
words_of-words l byte =
    record {
      a = word_of-lt _ _ _ _ (byte 0) (byte 1) (byte 2) (byte 3);
      b = word_of-lt _ _ _ _ (byte 4) (byte 5) (byte 6) (byte 7);
      c = word_of-lt _ _ _ _ (byte 8) (byte 9) (byte 10) (byte 11);
      d = word_of-lt _ _ _ _ (byte 12) (byte 13) (byte 14) (byte 15);
    }

-- the words of the block of four words
words-block : (w : Words) → AreWords w → words_of (block_of w) ≡ w
unfolding words_of block_of word_at bytes_of
words-block w h = rw (word_bytes w.a h.a, word_bytes w.b h.b, word_bytes w.c h.c, word_bytes w.d h.d)

-- sixteen bytes as four parts of four
quarters :
    (l : List ℕ) → length l ≡ 16
    → l ≡ take 4 (drop (4 * 0) l) ++ (take 4 (drop (4 * 1) l) ++ (take 4 (drop (4 * 2) l) ++ take 4 (drop (4 * 3) l)))
quarters l e =
    let step : (i : ℕ) → drop (4 * i) l ≡ take 4 (drop (4 * i) l) ++ drop (4 * (i + 1)) l =
    λ i. sym (take-append-drop 4 (drop (4 * i) l))
    ∙ ap (λ (m : List ℕ). take 4 (drop (4 * i) l) ++ m) (drop-drop 4 (4 * i) l ∙ ap (λ (n : ℕ). drop n l) (omega arith)) in
    let last : take 4 (drop (4 * 3) l) ≡ drop (4 * 3) l = take_all 4 (drop 12 l) (omega (arith, length-drop 12 l, e)) in
    let two = step 2 ∙ ap (λ (m : List ℕ). take 4 (drop 8 l) ++ m) (sym last) in
    step 0 ∙ ap (λ (m : List ℕ). take 4 l ++ m) (step 1 ∙ ap (λ (m : List ℕ). take 4 (drop 4 l) ++ m) two)

-- the block of the words of sixteen bytes
block-words : (l : List ℕ) → Bytes 16 l → block_of (words_of l) ≡ l
unfolding block_of words_of
block-words l h =
    let part : (i : ℕ) → i < 4 → take 4 (drop (4 * i) l) ≡ bytes_of (word_at l i) =
    λ i few. part_bytes l i (omega (arith, h.long, few)) h.byte in
    sym (quarters l h.long
    ∙ ap₂ ◌++◌ (part 0 (lit< tt)) (ap₂ ◌++◌ (part 1 (lit< tt)) (ap₂ ◌++◌ (part 2 (lit< tt)) (part 3 (lit< tt)))))

-- ---- blocks under a schedule
module _ (t : Twofish) (l : List ℕ) (s : Schedule t) (h : Bytes 16 l) where
  word : (i : ℕ) → subkey t.k i < 2 ^ 32
  unfolding subkey
  word i = s.keys i

  pub undone : deciphered t (enciphered t l) ≡ l
  unfolding enciphered deciphered
  undone =
      let G = g t.s t.start in
      let K = subkey t.k in
      let w = words_of-words l h.byte in
      ap (λ (v : Words). block_of (deciphered_words G K v)) (words-block (enciphered_words G K (words_of l)) (enciphered-words K word G (words_of l) w))
      ∙ ap block_of (deciphered-enciphered K word G (words_of l) w) ∙ block-words l h

  pub redone : enciphered t (deciphered t l) ≡ l
  unfolding enciphered deciphered
  redone =
      let G = g t.s t.start in
      let K = subkey t.k in
      let w = words_of-words l h.byte in
      ap (λ (v : Words). block_of (enciphered_words G K v)) (words-block (deciphered_words G K (words_of l)) (deciphered-words K word G (words_of l) w))
      ∙ ap block_of (enciphered-deciphered K word G (words_of l) w) ∙ block-words l h
