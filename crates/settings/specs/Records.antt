-- Records and their layout, and the states that they make.
use Rattle.std.specs.Prelude.{Bool, false, not, ◌&&◌, ◌||◌, List, [], ◌∷◌, ◌++◌, ℕ, zero, suc, ◌*◌, eqb, ltb, cond, take, drop, set, get_or, replicate}
use Rattle.words.specs.Word.{word_of, bytes_of}
use Rattle.settings.specs.declared.Entry.{Entry}
use Rattle.settings.specs.declared.Entry.TheVariants.{Set, GoBack}

-- a record's eight bytes: setting, kind, two zero bytes, and the value with its low byte first
unfoldable pub laid : Entry → List ℕ
laid (Set setting value) = setting ∷ 0 ∷ 0 ∷ 0 ∷ bytes_of value
laid (GoBack version) = 0 ∷ 1 ∷ 0 ∷ 0 ∷ bytes_of version

-- what eight bytes say: with kind 0 that a setting is set, else a going back
unfoldable pub said : List ℕ → Entry
said r = cond (eqb (get_or r 1 0) 0) (Set (get_or r 0 0) (word_of (drop 4 r))) (GoBack (word_of (drop 4 r)))

-- whether a setting is above 31, or a version above the number of records before
unfoldable pub outside : ℕ → Entry → Bool
outside before (Set setting value) = ltb 31 setting
outside before (GoBack version) = ltb before version

-- whether eight bytes break the layout, with so many records before them: a kind above 1, a byte 2 or 3 that is not 0, a going back with a setting
-- other than 0, or a setting or version outside
unfoldable pub breaks : ℕ → List ℕ → Bool
breaks before r =
    ltb 1 (get_or r 1 0) || (not (eqb (get_or r 2 0) 0) || (not (eqb (get_or r 3 0) 0)
    || ((eqb (get_or r 1 0) 1 && not (eqb (get_or r 0 0) 0)) || outside before (said r))))

-- the eight bytes of record i of a store, counted from 0
unfoldable pub record_bytes : ℕ → List ℕ → List ℕ
record_bytes i store = take 8 (drop (8 * i) store)

-- what record i of a store says
unfoldable pub record_at : List ℕ → ℕ → Entry
record_at store i = said (record_bytes i store)

-- whether one of the first n records breaks the layout
unfoldable pub broken : ℕ → List ℕ → Bool
broken zero store = false
broken (suc n) store = broken n store || breaks n (record_bytes n store)

-- the values of the settings before the first record
abbrev pub zeros : List ℕ
zeros = replicate 32 0

-- the state after a record, by the states after the first 0, 1, .., n records before it
unfoldable pub next : Entry → ℕ → List (List ℕ) → List ℕ
next (Set setting value) n states = set (get_or states n zeros) setting value
next (GoBack version) n states = get_or states version zeros

-- the states after the first 0, 1, .., n of the records
unfoldable pub states : (ℕ → Entry) → ℕ → List (List ℕ)
states records zero = zeros ∷ []
states records (suc n) = states records n ++ next (records n) n (states records n) ∷ []

-- the state after the first n
unfoldable pub state : (ℕ → Entry) → ℕ → List ℕ
state records n = get_or (states records n) n zeros
