-- A list with a part replaced.
use Rattle.std.specs.Prelude.{List, ◌++◌, ℕ, ◌+◌, length, take, drop}

-- l with vs in the place of as many elements from place o on
unfoldable pub splice : ℕ → List ℕ → List ℕ → List ℕ
splice o vs l = take o l ++ (vs ++ drop (o + length vs) l)
