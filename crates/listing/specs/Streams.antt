-- What is taken from a reader whose bytes are known, and what is written of them.
use Rattle.std.specs.Prelude.{◌≡◌, List, ℕ, Option, Some, None, IfSome, take, drop, ⊤}
use Rattle.std.specs.Io.KnownBytes.{Appends}

-- the first n bytes that were left are taken, or all where fewer were left
abbrev pub Takes : Option (List ℕ) → Option (List ℕ) → ℕ → List ℕ → Type 0
Takes None new n bytes = ⊤
Takes (Some xs) None n bytes = ⊥
Takes (Some xs) (Some ys) n bytes = (bytes ≡ take n xs) × (ys ≡ drop n xs)

-- the first n bytes that were left are gone, or all where fewer were left
abbrev pub Drops : Option (List ℕ) → Option (List ℕ) → ℕ → Type 0
Drops None new n = ⊤
Drops (Some xs) None n = ⊥
Drops (Some xs) (Some ys) n = ys ≡ drop n xs

-- of the bytes that were left, f is written after what the writer held
abbrev pub Writes : Option (List ℕ) → Option (List ℕ) → Option (List ℕ) → (List ℕ → List ℕ) → Type 0
Writes left old new f = IfSome left (λ bytes. Appends old new (f bytes))
