-- Lists by their elements, and the words of a list of bytes.
use Rattle.std.specs.Prelude.{List, [], ◌∷◌, ◌++◌, ℕ, zero, suc, ◌+◌, ◌*◌, get_or}
use Rattle.words.specs.Word.{word_of}

-- (f 0, f 1, .., f (n - 1))
unfoldable pub listed : {A : Type 0} → (ℕ → A) → ℕ → List A
listed f zero = []
listed f (suc n) = listed f n ++ (f n ∷ [])

-- word i of a list of bytes: b_{4i} + 2^8 b_{4i+1} + 2^16 b_{4i+2} + 2^24 b_{4i+3}
unfoldable pub word_at : List ℕ → ℕ → ℕ
word_at l i = word_of (get_or l (4 * i) 0 ∷ get_or l (4 * i + 1) 0 ∷ get_or l (4 * i + 2) 0 ∷ get_or l (4 * i + 3) 0 ∷ [])
