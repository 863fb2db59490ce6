-- A published encryption for each key size, computed from the paper's definitions.
use Rattle.std.proofs.Common.{◌≡◌, [], ◌∷◌, replicate, refl}
use Rattle.words.specs.Word.{rol, ror, word_of, byte_of, bytes_of}
use Rattle.spans.specs.Bytes.{xor_bytes}
use Rattle.field.specs.Field.{product, remainder, mul}
use Rattle.field.specs.Matrix.{mds, rs, entry, row_times, times}
use Rattle.sbox.specs.Q.{mixed, permuted, qbox, row, q_of, qord}
use Rattle.twofish.specs.Lists.{listed, word_at}
use Rattle.twofish.specs.H.{through, y, h}
use Rattle.twofish.specs.Schedule.{every_other, s_bytes, a_word, b_word, k_word, schedule}
use Rattle.block.specs.Rounds.{f₀, f₁, round, rounds, whiten, leave, enciphered_words}
use Rattle.block.specs.Block.{s_list, g, subkey, words_of, block_of, enciphered}

pub published_128 :
    enciphered (schedule (replicate 16 0) 2) (replicate 16 0)
    ≡ 0x9f ∷ 0x58 ∷ 0x9f ∷ 0x5c ∷ 0xf6 ∷ 0x12 ∷ 0x2c ∷ 0x32 ∷ 0xb6 ∷ 0xbf ∷ 0xec ∷ 0x2f ∷ 0x2a ∷ 0xe8 ∷ 0xc3 ∷ 0x5a ∷ []
unfolding rol ror word_of byte_of bytes_of xor_bytes product remainder mul mds rs entry row_times times mixed permuted qbox row q_of qord listed word_at through y h every_other s_bytes a_word b_word k_word schedule f₀ f₁ round rounds whiten leave enciphered_words s_list g subkey words_of block_of enciphered
published_128 = refl

pub published_192 :
    enciphered (schedule (0x01 ∷ 0x23 ∷ 0x45 ∷ 0x67 ∷ 0x89 ∷ 0xab ∷ 0xcd ∷ 0xef ∷ 0xfe ∷ 0xdc ∷ 0xba ∷ 0x98 ∷ 0x76 ∷ 0x54 ∷ 0x32 ∷ 0x10 ∷ 0x00 ∷ 0x11 ∷ 0x22 ∷ 0x33 ∷ 0x44 ∷ 0x55 ∷ 0x66 ∷ 0x77 ∷ []) 3) (replicate 16 0)
    ≡ 0xcf ∷ 0xd1 ∷ 0xd2 ∷ 0xe5 ∷ 0xa9 ∷ 0xbe ∷ 0x9c ∷ 0xdf ∷ 0x50 ∷ 0x1f ∷ 0x13 ∷ 0xb8 ∷ 0x92 ∷ 0xbd ∷ 0x22 ∷ 0x48 ∷ []
unfolding rol ror word_of byte_of bytes_of xor_bytes product remainder mul mds rs entry row_times times mixed permuted qbox row q_of qord listed word_at through y h every_other s_bytes a_word b_word k_word schedule f₀ f₁ round rounds whiten leave enciphered_words s_list g subkey words_of block_of enciphered
published_192 = refl

pub published_256 :
    enciphered (schedule (0x01 ∷ 0x23 ∷ 0x45 ∷ 0x67 ∷ 0x89 ∷ 0xab ∷ 0xcd ∷ 0xef ∷ 0xfe ∷ 0xdc ∷ 0xba ∷ 0x98 ∷ 0x76 ∷ 0x54 ∷ 0x32 ∷ 0x10 ∷ 0x00 ∷ 0x11 ∷ 0x22 ∷ 0x33 ∷ 0x44 ∷ 0x55 ∷ 0x66 ∷ 0x77 ∷ 0x88 ∷ 0x99 ∷ 0xaa ∷ 0xbb ∷ 0xcc ∷ 0xdd ∷ 0xee ∷ 0xff ∷ []) 4) (replicate 16 0)
    ≡ 0x37 ∷ 0x52 ∷ 0x7b ∷ 0xe0 ∷ 0x05 ∷ 0x23 ∷ 0x34 ∷ 0xb8 ∷ 0x9f ∷ 0x0c ∷ 0xfc ∷ 0xca ∷ 0xe8 ∷ 0x7c ∷ 0xfa ∷ 0x20 ∷ []
unfolding rol ror word_of byte_of bytes_of xor_bytes product remainder mul mds rs entry row_times times mixed permuted qbox row q_of qord listed word_at through y h every_other s_bytes a_word b_word k_word schedule f₀ f₁ round rounds whiten leave enciphered_words s_list g subkey words_of block_of enciphered
published_256 = refl
