-- Words and their bytes: each is given by the other.
use Rattle.std.proofs.Common.{◌≡◌, ℕ, ◌+◌, ◌*◌, ◌/◌, ◌%◌, ◌^◌, ◌<◌, List, [], ◌∷◌, length, get_or, sym, refl, ap, ◌∙◌, ap₂, arith}
use lib.Bits.{bit_or, or_shifted_r}
use Rattle.words.specs.Word.{word_of, byte_of, bytes_of}

-- four bytes, written out
abbrev pub word : ℕ → ℕ → ℕ → ℕ → ℕ
word a b c d = a + 0x100 * b + 0x1_0000 * c + 0x100_0000 * d

pub word_of-four : (a b c d : ℕ) → word_of (a ∷ b ∷ c ∷ d ∷ []) ≡ word a b c d
unfolding word_of
word_of-four a b c d = omega arith

-- a list of four is its elements
pub four : (l : List ℕ) → length l ≡ 4 → l ≡ get_or l 0 0 ∷ get_or l 1 0 ∷ get_or l 2 0 ∷ get_or l 3 0 ∷ []
four (a ∷ b ∷ c ∷ d ∷ []) e = refl
four [] e = absurd (omega (arith, e))
four (a ∷ []) e = absurd (omega (arith, e))
four (a ∷ b ∷ []) e = absurd (omega (arith, e))
four (a ∷ b ∷ c ∷ []) e = absurd (omega (arith, e))
four (a ∷ b ∷ c ∷ d ∷ x ∷ l) e = absurd (omega (arith, e))

-- four bytes shifted to their places and joined by `or`
abbrev pub joined : ℕ → ℕ → ℕ → ℕ → ℕ
joined a b c d = bit_or (bit_or (bit_or a (b * 2 ^ 8 % 2 ^ 32)) (c * 2 ^ 16 % 2 ^ 32)) (d * 2 ^ 24 % 2 ^ 32)

joined_word : (a b c d : ℕ) → a < 256 → b < 256 → c < 256 → d < 256 → joined a b c d ≡ word a b c d
joined_word a b c d ha hb hc hd =
    let p : b * 2 ^ 8 % 2 ^ 32 ≡ b * 2 ^ 8 = omega arith in
    let q : c * 2 ^ 16 % 2 ^ 32 ≡ c * 2 ^ 16 = omega arith in
    let r : d * 2 ^ 24 % 2 ^ 32 ≡ d * 2 ^ 24 = omega arith in
    let one : bit_or a (b * 2 ^ 8 % 2 ^ 32) ≡ b * 2 ^ 8 + a = ap (bit_or a) p ∙ or_shifted_r b 8 a ha in
    let two : bit_or (bit_or a (b * 2 ^ 8 % 2 ^ 32)) (c * 2 ^ 16 % 2 ^ 32) ≡ c * 2 ^ 16 + (b * 2 ^ 8 + a) =
    ap₂ bit_or one q ∙ or_shifted_r c 16 (b * 2 ^ 8 + a) (omega arith) in
    ap₂ bit_or two r ∙ or_shifted_r d 24 (c * 2 ^ 16 + (b * 2 ^ 8 + a)) (omega arith) ∙ omega arith

-- of a list of four bytes; no proof cites this now, and it stays since docs/PORT.md names it
pub joined_list :
    (l : List ℕ) → length l ≡ 4 → ((i : ℕ) → get_or l i 0 < 256)
    → joined (get_or l 0 0) (get_or l 1 0) (get_or l 2 0) (get_or l 3 0) ≡ word_of l
joined_list l e h =
    joined_word (get_or l 0 0) (get_or l 1 0) (get_or l 2 0) (get_or l 3 0) (h 0) (h 1) (h 2) (h 3)
    ∙ sym (ap word_of (four l e) ∙ word_of-four (get_or l 0 0) (get_or l 1 0) (get_or l 2 0) (get_or l 3 0))

-- a word is the word of its bytes
pub word_bytes : (x : ℕ) → x < 2 ^ 32 → word_of (bytes_of x) ≡ x
unfolding bytes_of byte_of
word_bytes x h =
    let first : x / 2 ^ 0 ≡ x = omega arith in
    let last : x / 2 ^ 24 % 2 ^ 8 ≡ x / 2 ^ 24 = omega arith in
    word_of-four _ _ _ _ ∙ rw (first, last) (omega arith)

-- four bytes are the bytes of their word
pub bytes_word :
    (a b c d : ℕ) → a < 256 → b < 256 → c < 256 → d < 256
    → bytes_of (word_of (a ∷ b ∷ c ∷ d ∷ [])) ≡ a ∷ b ∷ c ∷ d ∷ []
unfolding bytes_of byte_of
bytes_word a b c d ha hb hc hd =
    let x : ℕ = word a b c d in
    let first : x / 2 ^ 0 % 2 ^ 8 ≡ a = omega arith in
    let q : x / 2 ^ 8 ≡ b + 0x100 * c + 0x1_0000 * d = omega arith in
    let r : x / 2 ^ 16 ≡ c + 0x100 * d = omega arith in
    let s : x / 2 ^ 24 ≡ d = omega arith in
    let second : (b + 0x100 * c + 0x1_0000 * d) % 2 ^ 8 ≡ b = omega arith in
    let third : (c + 0x100 * d) % 2 ^ 8 ≡ c = omega arith in
    let fourth : d % 2 ^ 8 ≡ d = omega arith in
    rw (word_of-four a b c d, first, q, second, r, third, s, fourth)
