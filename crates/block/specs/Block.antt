-- A block of 16 bytes enciphered and deciphered under any schedule, and what the two directions do to a lent buffer.
use Rattle.std.specs.Prelude.{not, List, [], ◌∷◌, ◌++◌, ℕ, ◌-◌, ◌^◌, ◌<◌, eqb, ltb, length, get_or}
use Rattle.words.specs.Word.{bytes_of}
use Rattle.spans.specs.Refusals.{◌when◌, given}
use Rattle.twofish.specs.Lists.{listed, word_at}
use Rattle.twofish.specs.H.{h}
use Rattle.twofish.specs.declared.Twofish.{Twofish}
use Rattle.block.specs.declared.Words.{Words}
use Rattle.block.specs.Rounds.{enciphered_words, deciphered_words}

-- how many S words a start number calls for: k = 4 - start
abbrev pub s_words : ℕ → ℕ
s_words start = 4 - start

-- the paper's list S = (S_{k-1}, S_{k-2}, .., S_0), from S bytes in key order
unfoldable pub s_list : List ℕ → ℕ → List ℕ
s_list s start = listed (λ i. word_at s (s_words start - 1 - i)) (s_words start)

-- g(X) = h(X, S)
unfoldable pub g : List ℕ → ℕ → ℕ → ℕ
g s start X = h X (s_list s start)

-- K_i of a schedule
unfoldable pub subkey : List ℕ → ℕ → ℕ
subkey k i = get_or k i 0

-- the g and the subkeys of a schedule
abbrev pub g_of : Twofish → ℕ → ℕ
g_of t = g t.s t.start

abbrev pub keys_of : Twofish → ℕ → ℕ
keys_of t = subkey t.k

-- the four words of 16 bytes, and the 16 bytes of four words
unfoldable pub words_of : List ℕ → Words
words_of l = record { a = word_at l 0; b = word_at l 1; c = word_at l 2; d = word_at l 3 }

unfoldable pub block_of : Words → List ℕ
block_of w = bytes_of w.a ++ (bytes_of w.b ++ (bytes_of w.c ++ bytes_of w.d))

-- a block enciphered, and deciphered, under a schedule
unfoldable pub enciphered : Twofish → List ℕ → List ℕ
enciphered t l = block_of (enciphered_words (g t.s t.start) (subkey t.k) (words_of l))

unfoldable pub deciphered : Twofish → List ℕ → List ℕ
deciphered t l = block_of (deciphered_words (g t.s t.start) (subkey t.k) (words_of l))

-- refusal 2: the schedule's start is above 2; refusal 3: the buffer is not a block
unfoldable pub block_number : Twofish → List ℕ → ℕ
block_number t l = given (2 when ltb 2 t.start ∷ 3 when not (eqb (length l) 16) ∷ [])

-- a schedule's subkeys are words, whether it came from a key or not
pub record Schedule (t : Twofish) : Type 0 where
  pub keys : (i : ℕ) → get_or t.k i 0 < 2 ^ 32
