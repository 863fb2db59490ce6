-- Blocks of 16 bytes and their four words.
use mathlib.Core.Path.{◌≡◌, refl, ap, ◌∙◌}
use mathlib.Core.List.{List, [], ◌++◌}
use Prim.Native.Nat.{ℕ, zero, suc}
use native.Mathlib.Omega.{arith}
use lib.ListN.{length, drop, length-drop, drop_of_length-le}
use Rattle.std.proofs.Common.{lit<, mod-lt}
use Rattle.words.specs.Word.{byte_of, bytes_of}
use Rattle.spans.specs.Bytes.{Bytes}
use Rattle.spans.specs.Parts.{splice}
use Rattle.spans.proofs.BytesLaws.{AllBytes, Bytes-append}
use Rattle.twofish.specs.declared.Twofish.{Twofish}
use Rattle.block.specs.declared.Words.{Words}
use Rattle.block.specs.Block.{block_of, enciphered, deciphered}

-- nothing is left after four words
gone : (l : List ℕ) → length l ≡ 16 → drop 4 (drop 4 (drop 4 (drop 4 l))) ≡ []
gone l e = drop_of_length-le (drop 4 (drop 4 (drop 4 l))) {i = 4} (simp length-drop (omega arith))

-- four words put one after the other are a block
pub put_all :
    (l p q r s : List ℕ) (w : Words) → length l ≡ 16 → p ≡ splice 0 (bytes_of w.a) l → q ≡ splice 4 (bytes_of w.b) p
    → r ≡ splice 8 (bytes_of w.c) q → s ≡ splice 12 (bytes_of w.d) r → s ≡ block_of w
unfolding splice bytes_of block_of
put_all l p q r s w e ep eq er es =
    es ∙ ap (splice 12 (bytes_of w.d)) (er ∙ ap (splice 8 (bytes_of w.c)) (eq ∙ ap (splice 4 (bytes_of w.b)) ep))
    ∙ ap (λ (x : List ℕ). bytes_of w.a ++ (bytes_of w.b ++ (bytes_of w.c ++ (bytes_of w.d ++ x)))) (gone l e)

-- four words' bytes are bytes, and so is a block enciphered or deciphered
word-bytes : (x : ℕ) → Bytes 4 (bytes_of x)
unfolding bytes_of byte_of
word-bytes x = record { long = refl; byte = byte }
  where
    byte : AllBytes (bytes_of x)
    byte zero = mod-lt _ (lit< tt)
    byte (suc zero) = mod-lt _ (lit< tt)
    byte (suc (suc zero)) = mod-lt _ (lit< tt)
    byte (suc (suc (suc zero))) = mod-lt _ (lit< tt)
    byte (suc (suc (suc (suc i)))) = lit< tt

block_of-bytes : (w : Words) → Bytes 16 (block_of w)
unfolding block_of
block_of-bytes w = Bytes-append (word-bytes w.a) (Bytes-append (word-bytes w.b) (Bytes-append (word-bytes w.c) (word-bytes w.d)))

pub enciphered-bytes : (t : Twofish) (l : List ℕ) → Bytes 16 (enciphered t l)
unfolding enciphered
enciphered-bytes t l = block_of-bytes _

pub deciphered-bytes : (t : Twofish) (l : List ℕ) → Bytes 16 (deciphered t l)
unfolding deciphered
deciphered-bytes t l = block_of-bytes _
