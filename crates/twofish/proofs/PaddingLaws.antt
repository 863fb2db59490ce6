-- Laws of padding: a key's size and its zeros, and which keys have one schedule.
use Rattle.std.proofs.Common.{◌≡◌, ℕ, ◌+◌, ◌-◌, ◌*◌, ◌/◌, ◌≤◌, ◌<◌, Bool, true, false, not, cond, leb, ◌⊎◌, ⊎_elim, List, ◌++◌, length, take, replicate, refl, sym, ap, ap₂, ◌∙◌, append_assoc, append-nil, zero-add, arith}
use Rattle.std.proofs.lemmas.Bool.Decides.{nat_tests}
use Rattle.std.proofs.lemmas.List.{length-append, length-replicate, replicate-append-replicate, take-replicate, drop-replicate}
use borrow.Rule.Slice.PartMut.{put_mid}
use lib.Dec.{lit≤, lit<}
use lib.Seq.{take-append-add}
use Rattle.spans.specs.Parts.{splice}
use Rattle.spans.specs.Refusals.{given}
use Rattle.spans.proofs.BytesLaws.{AllBytes, AllBytes-append, AllBytes-replicate}
use Rattle.spans.proofs.PartsLaws.{mid_splice}
use Rattle.twofish.specs.Answers.{nowhere, told}
use Rattle.twofish.specs.Schedule.{SetUp, schedule, taken, size, padded, units, key_number, set_up}
use Rattle.twofish.proofs.ScheduleLaws.{set_up_taken}

-- a length that is taken is from 1 to 32
pub taken_fits : (n : ℕ) → taken n ≡ true → (0 < n) × (n ≤ 32)
unfolding taken
taken_fits n e = grind (arith, nat_tests)

-- and another is 0 or above 32
not_taken : (n : ℕ) → taken n ≡ false → (n ≡ 0) ⊎ (32 < n)
unfolding taken
not_taken n e = grind (arith, nat_tests)

-- so refusal 1 is given exactly where a key has no byte, or more than 32
pub refused_exactly : (m : List ℕ) → (key_number m ≡ 1 → (length m ≡ 0) ⊎ (32 < length m)) × ((length m ≡ 0) ⊎ (32 < length m) → key_number m ≡ 1)
unfolding key_number given
refused_exactly m = by (taken (length m)) refl
  where
    by : (b : Bool) → taken (length m) ≡ b → let n : ℕ = cond (not b) 1 0 in
        (n ≡ 1 → (length m ≡ 0) ⊎ (32 < length m)) × ((length m ≡ 0) ⊎ (32 < length m) → n ≡ 1)
    by true e =
        let f = taken_fits (length m) e in
        (λ z. absurd (omega (arith, z)), ⊎_elim (λ z. absurd (omega (arith, f, z))) (λ z. absurd (omega (arith, f, z))))
    by false e = (λ z. not_taken (length m) e, λ o. refl)

-- ---- sizes
-- a size is 8 k, with k from 2 to 4
pub size_units : (n : ℕ) → (size n ≡ 8 * (size n / 8)) × (2 ≤ size n / 8) × (size n / 8 ≤ 4)
unfolding size
size_units n = by (leb n 16) (leb n 24)
  where
    by : (a b : Bool) → let s : ℕ = cond a 16 (cond b 24 32) in (s ≡ 8 * (s / 8)) × (2 ≤ s / 8) × (s / 8 ≤ 4)
    by true b = (refl, lit≤ tt, lit≤ tt)
    by false true = (refl, lit≤ tt, lit≤ tt)
    by false false = (refl, lit≤ tt, lit≤ tt)

-- up to 32 bytes have room in their size
pub size_room : (n : ℕ) → n ≤ 32 → n ≤ size n
unfolding size
size_room n h = grind (arith, nat_tests)

-- a number of bytes that has room in another's size, and is no smaller, has the same size
size_within : (n l : ℕ) → n ≤ l → l ≤ size n → size l ≡ size n
unfolding size
size_within n l h k = grind (arith, nat_tests)

-- 8 k bytes, with k from 2 to 4, are of their own size
size_own : (k : ℕ) → 2 ≤ k → k ≤ 4 → size (8 * k) ≡ 8 * k
unfolding size
size_own k lo hi = grind (arith, nat_tests)

-- and are taken
taken_own : (n k : ℕ) → 2 ≤ k → k ≤ 4 → n ≡ 8 * k → taken n ≡ true
unfolding taken
taken_own n k lo hi e = grind (arith, nat_tests)

-- ---- zeros after a key
pub padded-length : (m : List ℕ) → length m ≤ 32 → length (padded m) ≡ size (length m)
unfolding padded
padded-length m h =
    length-append m (replicate (size (length m) - length m) 0)
    ∙ omega (arith, length-replicate {A = ℕ} (size (length m) - length m) 0, size_room (length m) h)

-- the first bytes of a key with zeros up to 32, as many as its size
pub padded_part :
    (m w : List ℕ) (s : ℕ) → length m ≤ 32 → w ≡ m ++ replicate (32 - length m) 0 → s ≡ size (length m) → take s w ≡ padded m
unfolding padded
padded_part m w s h ew es =
    let z : ℕ = size (length m) - length m in
    let at : s ≡ length m + z = omega (arith, size_room (length m) h) in
    let few : z ≤ 32 - length m = omega (arith, size_units (length m)) in
    ap₂ take at ew ∙ take-append-add m (replicate (32 - length m) 0) z ∙ ap (λ (zs : List ℕ). m ++ zs) (take-replicate z (32 - length m) 0 few)

-- a key laid over 32 zeros from the first on
pub over_zeros : (v m : List ℕ) → v ≡ m → length m ≤ 32 → put_mid 0 (length m - 0) (replicate 32 0) v ≡ m ++ replicate (32 - length m) 0
unfolding splice
over_zeros v m e h =
    mid_splice 0 (length m - 0) v (replicate 32 0) (ap length e ∙ omega arith)
    ∙ rw e (ap (λ (zs : List ℕ). m ++ zs) (drop-replicate (0 + length m) 32 0 ∙ ap (λ (k : ℕ). replicate (32 - k) 0) (zero-add (length m))))

-- a padded key is 8 k bytes, with k from 2 to 4
pub padded_units : (m : List ℕ) → length m ≤ 32 → (length (padded m) ≡ 8 * units (padded m)) × (2 ≤ units (padded m)) × (units (padded m) ≤ 4)
padded_units m h = rw (padded-length m h) (size_units (length m))

pub padded_bytes : (m : List ℕ) → AllBytes m → AllBytes (padded m)
unfolding padded
padded_bytes m b = AllBytes-append m _ b (AllBytes-replicate _ 0 (lit< tt))

-- a key of 16, 24 or 32 bytes is its own padding
pub own_padding : (m : List ℕ) (k : ℕ) → 2 ≤ k → k ≤ 4 → length m ≡ 8 * k → padded m ≡ m
unfolding padded
own_padding m k lo hi e =
    let none : size (length m) - length m ≡ 0 = omega (arith, ap size e, size_own k lo hi) in
    ap (λ (z : ℕ). m ++ replicate z 0) none ∙ append-nil m

-- zeros after a key, and after them those up to a size, are the zeros up to that size
zeros_joined :
    (m : List ℕ) (z s : ℕ) → length m + z ≤ s → m ++ replicate z 0 ++ replicate (s - (length m + z)) 0 ≡ m ++ replicate (s - length m) 0
zeros_joined m z s h =
    let sum : z + (s - (length m + z)) ≡ s - length m = omega arith in
    append_assoc m (replicate z 0) (replicate (s - (length m + z)) 0)
    ∙ ap (λ (zs : List ℕ). m ++ zs) (replicate-append-replicate z (s - (length m + z)) 0 ∙ ap (λ (n : ℕ). replicate n 0) sum)

zeros-length : (m : List ℕ) (z : ℕ) → length (m ++ replicate z 0) ≡ length m + z
zeros-length m z = length-append m (replicate z 0) ∙ omega (arith, length-replicate {A = ℕ} z 0)

padded_zeros :
    (m : List ℕ) (z : ℕ) → length m + z ≤ 32 → padded (m ++ replicate z 0) ≡ m ++ replicate (size (length m + z) - length m) 0
unfolding padded
padded_zeros m z h =
    ap (λ (n : ℕ). m ++ replicate z 0 ++ replicate (size n - n) 0) (zeros-length m z)
    ∙ zeros_joined m z (size (length m + z)) (size_room (length m + z) h)

-- keys that differ only in trailing zeros, and are of one size, have one padding
pub padded_trailing :
    (m : List ℕ) (a b : ℕ) → length m + a ≤ 32 → length m + b ≤ 32 → size (length m + a) ≡ size (length m + b)
    → padded (m ++ replicate a 0) ≡ padded (m ++ replicate b 0)
padded_trailing m a b ha hb e =
    padded_zeros m a ha ∙ ap (λ (s : ℕ). m ++ replicate (s - length m) 0) e ∙ sym (padded_zeros m b hb)

-- so zeros that are appended within a key's size make no difference
pub padded-more : (m : List ℕ) (z : ℕ) → length m + z ≤ size (length m) → padded (m ++ replicate z 0) ≡ padded m
padded-more m z h =
    let fits : length m + z ≤ 32 = omega (arith, size_units (length m)) in
    let same : size (length m + z) ≡ size (length m + 0) = size_within (length m) (length m + z) (omega arith) h ∙ ap size (omega arith) in
    padded_trailing m z 0 fits (omega arith) same ∙ ap padded (append-nil m)

-- ---- which keys have one schedule
start_of : (m : List ℕ) → taken (length m) ≡ true → 4 - units (padded m) ≡ (set_up m).schedule.start
unfolding schedule
start_of m e = ap (λ (h : SetUp). h.schedule.start) (set_up_taken m (schedule (padded m) (units (padded m))) e refl)

module _ (m l : List ℕ) (em : taken (length m) ≡ true) (el : taken (length l) ≡ true) where
  -- two keys whose paddings are the same have one
  pub one_schedule : padded m ≡ padded l → set_up m ≡ set_up l
  one_schedule e =
      sym (set_up_taken m _ em refl) ∙ set_up_taken l _ el (ap (λ (p : List ℕ). schedule p (units p)) e)

  -- and keys of two sizes have two
  pub one_size : set_up m ≡ set_up l → size (length m) ≡ size (length l)
  one_size e =
      let u = padded_units m (taken_fits _ em).1 in
      let v = padded_units l (taken_fits _ el).1 in
      let k : 4 - units (padded m) ≡ 4 - units (padded l) = start_of m em ∙ ap (λ (h : SetUp). h.schedule.start) e ∙ sym (start_of l el) in
      let s : length (padded m) ≡ length (padded l) = omega (arith, u, v, k) in
      sym (padded-length m (taken_fits _ em).1) ∙ s ∙ padded-length l (taken_fits _ el).1

-- keys that differ only in trailing zeros, and are of one size, have one schedule
pub trailing_zeros :
    (m : List ℕ) (a b : ℕ) → taken (length m + a) ≡ true → taken (length m + b) ≡ true → size (length m + a) ≡ size (length m + b)
    → set_up (m ++ replicate a 0) ≡ set_up (m ++ replicate b 0)
trailing_zeros m a b ta tb e =
    one_schedule (m ++ replicate a 0) (m ++ replicate b 0) (ap taken (zeros-length m a) ∙ ta) (ap taken (zeros-length m b) ∙ tb)
    (padded_trailing m a b (taken_fits _ ta).1 (taken_fits _ tb).1 e)

-- a key of 16, 24 or 32 bytes has the schedule of its own bytes
pub own_schedule :
    (m : List ℕ) (k : ℕ) → 2 ≤ k → k ≤ 4 → length m ≡ 8 * k → record { answer = told 0 0 nowhere; schedule = schedule m k } ≡ set_up m
own_schedule m k lo hi e =
    let p : padded m ≡ m = own_padding m k lo hi e in
    let u : k ≡ units (padded m) = (let w : k ≡ length m / 8 = omega arith in w ∙ ap units (sym p)) in
    set_up_taken m (schedule m k) (taken_own (length m) k lo hi e) (ap₂ schedule (sym p) u)
