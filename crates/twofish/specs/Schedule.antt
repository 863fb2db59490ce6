-- The paper's key schedule, and what set-up hands back for each key.
use Rattle.std.specs.Prelude.{Result, Ok, Err, Bool, not, ◌&&◌, List, [], ◌∷◌, ◌++◌, ℕ, ◌+◌, ◌-◌, ◌*◌, ◌/◌, ◌%◌, ◌^◌, eqb, ltb, leb, length, take, drop, replicate, cond}
use Rattle.words.specs.Word.{rol}
use Rattle.std.specs.List.{concat}
use Rattle.spans.specs.Refusals.{◌when◌, given}
use Rattle.field.specs.Matrix.{rs_times}
use Rattle.twofish.specs.Lists.{listed, word_at}
use Rattle.twofish.specs.H.{h}
use Rattle.twofish.specs.declared.Answer.{Answer}
use Rattle.twofish.specs.declared.Twofish.{Twofish}
use Rattle.twofish.specs.declared.Refusal.{Refusal}
use Rattle.twofish.specs.Answers.{nowhere, told, answer, refused_answer}

-- ---- the paper's lists, for a key m of 8 k bytes
-- every other word of the key, from word o on: Me = (M_0, M_2, .., M_{2k-2}) for o = 0, and Mo = (M_1, M_3, .., M_{2k-1}) for o = 1
unfoldable pub every_other : List ℕ → ℕ → ℕ → List ℕ
every_other m k o = listed (λ i. word_at m (2 * i + o)) k

abbrev pub m_e : List ℕ → ℕ → List ℕ
m_e m k = every_other m k 0

abbrev pub m_o : List ℕ → ℕ → List ℕ
m_o m k = every_other m k 1

-- (s_{i,0}, s_{i,1}, s_{i,2}, s_{i,3}) = RS · (m_{8i}, .., m_{8i+7})
unfoldable pub s_bytes : List ℕ → ℕ → List ℕ
s_bytes m i = rs_times (take 8 (drop (8 * i) m))

-- ---- the subkeys
-- ρ = 2^24 + 2^16 + 2^8 + 2^0
abbrev pub ρ : ℕ
ρ = 0x01010101

-- A_i = h(2iρ, Me) and B_i = ROL(h((2i + 1)ρ, Mo), 8)
unfoldable pub a_word : List ℕ → ℕ → ℕ → ℕ
a_word m k i = h (ρ * (2 * i)) (m_e m k)

unfoldable pub b_word : List ℕ → ℕ → ℕ → ℕ
b_word m k i = rol 32 8 (h (ρ * (2 * i + 1)) (m_o m k))

-- K_{2i} = (A_i + B_i) mod 2^32, and K_{2i+1} = ROL((A_i + 2 B_i) mod 2^32, 9)
unfoldable pub k_word : List ℕ → ℕ → ℕ → ℕ
k_word m k n =
    cond (eqb (n % 2) 0) ((a_word m k (n / 2) + b_word m k (n / 2)) % 2 ^ 32)
    (rol 32 9 ((a_word m k (n / 2) + 2 * b_word m k (n / 2)) % 2 ^ 32))

-- ---- the schedule: the S bytes in key order and zeros after them, forty subkeys, and 4 - k
unfoldable pub schedule : List ℕ → ℕ → Twofish
schedule m k =
    record {
      s = concat (listed (s_bytes m) k) ++ replicate (16 - 4 * k) 0;
      k = listed (k_word m k) 40;
      start = 4 - k;
    }

-- what a refused key hands back
unfoldable pub refused : Twofish
refused = record { s = replicate 16 0; k = replicate 40 0; start = 3 }

-- ---- set-up
-- what set-up hands back: what it answers, and a schedule
pub record SetUp : Type 0 where
  pub answer : Answer
  pub schedule : Twofish

-- the same of its outcome: an error stands for its answer and the refused schedule
unfoldable pub handed_back : Result Twofish Refusal → SetUp
handed_back (Ok t) = record { answer = told 0 0 nowhere; schedule = t }
handed_back (Err e) = record { answer = refused_answer e; schedule = refused }

-- the key lengths that are taken: 1 to 32
unfoldable pub taken : ℕ → Bool
taken n = ltb 0 n && leb n 32

-- the size of a key of n bytes: the next of 16, 24 and 32
unfoldable pub size : ℕ → ℕ
size n = cond (leb n 16) 16 (cond (leb n 24) 24 32)

-- a key with zeros after it, up to its size
unfoldable pub padded : List ℕ → List ℕ
padded m = m ++ replicate (size (length m) - length m) 0

-- refusal 1: the key's length is not taken
unfoldable pub key_number : List ℕ → ℕ
key_number m = given (1 when not (taken (length m)) ∷ [])

-- k, the key's length in units of eight bytes
abbrev pub units : List ℕ → ℕ
units m = length m / 8

-- what set-up hands back for any bytes: of a length that is taken the schedule of the padded key
unfoldable pub set_up : List ℕ → SetUp
set_up m =
    record { answer = answer (key_number m) 0; schedule = cond (taken (length m)) (schedule (padded m) (units (padded m))) refused }
