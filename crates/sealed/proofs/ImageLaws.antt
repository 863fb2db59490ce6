-- Laws of a geometry in range, of its images and its slots.
use Rattle.std.proofs.Common.{◌≡◌, ℕ, ◌+◌, ◌*◌, ◌/◌, ◌%◌, ◌<◌, ◌≤◌, ◌-◌, List, length, take, drop, length-drop, Bool, true, false, ◌++◌, ◌&&◌, refl, sym, ap₂, ◌∙◌, arith}
use Rattle.std.proofs.lemmas.Bool.{leb-true}
use Rattle.std.proofs.lemmas.Nat.{div-mul-add, mod-mul-add, mul-add-lt}
use borrow.Author.Tests.{lt-ltb, le-leb, ltb-true, ltb-false, eqb-true, not-false}
use lib.Seq.{length-take-le}
use native.Mathlib.Nat.{mul-le-mul_right}
use Rattle.sealed.specs.declared.Geometry.{Geometry}
use Rattle.spans.specs.Refusals.{Line, given}
use Rattle.sealed.specs.Image.{up_to_256, in_range, reached, slot, image_length, record_at, image_refusals, image_number, refusals, seal_number}
use Rattle.spans.proofs.RefusalLaws.{given_after, given_kept, given_none, given_zero}
use Rattle.twofish.specs.declared.Twofish.{Twofish}

-- two tests passed
pub both : (a b : Bool) → (a && b) ≡ true → (a ≡ true) × (b ≡ true)
both true b e = (refl, e)
both false b e = absurd (let z : ◌≡◌ {A = ℕ} 0 1 = cc in omega arith)

-- a test passed
pub up_to_256-true : (n : ℕ) → up_to_256 n ≡ true → (0 < n) × (n ≤ 256)
unfolding up_to_256
up_to_256-true n e = let b = both _ _ e in (ltb-true _ _ b.0, leb-true _ _ b.1)

-- one more than a byte
up_to_256-byte : (b : ℕ) → b < 256 → up_to_256 (b + 1) ≡ true
unfolding up_to_256
up_to_256-byte b h = simp (lt-ltb 0 (b + 1) (omega arith), le-leb (b + 1) 256 (omega arith))

-- pages and banks that are each one more than a byte
pub in_range-bytes : (a b : ℕ) → a < 256 → b < 256 → in_range (record { pages = a + 1; banks = b + 1 }) ≡ true
unfolding in_range
in_range-bytes a b p q = simp (up_to_256-byte a p, up_to_256-byte b q)

module _ (G : Geometry) (e : in_range G ≡ true) where
  few : (G.pages ≤ 256) × (G.banks ≤ 256)
  unfolding in_range
  few = let b = both _ _ e in ((up_to_256-true _ b.0).1, (up_to_256-true _ b.1).1)

  pub few_records : G.pages * G.banks ≤ 65536
  few_records = let m = mul-le-mul_right {m = G.pages} {n = 256} G.banks few.0 in omega (arith, m, few.1)

-- a page of a bank that is there
pub record There (G : Geometry) (bank page : ℕ) : Type 0 where
  pub geometry : in_range G ≡ true
  pub banked : bank < G.banks
  pub paged : page < G.pages

pub place : {G : Geometry} {bank page : ℕ} → in_range G ≡ true → reached G bank page ≡ true → There G bank page
unfolding reached
place e r = let b = both _ _ r in record { geometry = e; banked = ltb-true _ _ b.0; paged = ltb-true _ _ b.1 }

-- its bank and its page are bytes, and its slot lies within the image and says which they are
module _ {G : Geometry} {bank page : ℕ} (there : There G bank page) where
  pub bank_byte : bank < 256
  bank_byte = omega (arith, there.banked, (few G there.geometry).1)

  pub page_byte : page < 256
  page_byte = omega (arith, there.paged, (few G there.geometry).0)

  pub slot-within : slot G bank page < G.pages * G.banks
  unfolding slot
  slot-within = mul-add-lt bank G.pages page G.banks there.banked there.paged

  pub slot-room : 272 * slot G bank page + 272 ≤ image_length G
  unfolding image_length
  slot-room = omega (arith, slot-within)

  pub slot-bank : slot G bank page / G.pages ≡ bank
  unfolding slot
  slot-bank = div-mul-add bank G.pages page there.paged

  pub slot-page : slot G bank page % G.pages ≡ page
  unfolding slot
  slot-page = mod-mul-add bank G.pages page there.paged

-- the refusals of an image, and others after them
module _ (t : Twofish) (G : Geometry) (long : ℕ) (others : List Line) where
  pub image_refused : (e : ℕ) → (e ≡ 0 → ⊥) → e ≡ image_number t G long → e ≡ given (image_refusals t G long ++ others)
  unfolding image_number
  image_refused e some k = k ∙ sym (given_kept (image_refusals t G long) others (λ z. some (k ∙ z)))

  -- where there is none, the others decide
  pub image_taken : 0 ≡ image_number t G long → given (image_refusals t G long ++ others) ≡ given others
  unfolding image_number image_refusals
  image_taken k = given_after (image_refusals t G long) others ((given_zero (image_refusals t G long) tt).0 (sym k))

-- what holds of a call that is taken up to its look
pub record Taken (t : Twofish) (G : Geometry) (long : ℕ) (placed fits : Bool) : Type 0 where
  pub start : t.start ≤ 2
  pub geometry : in_range G ≡ true
  pub whole : long ≡ image_length G
  pub small : long ≤ 17825792
  pub at_place : placed ≡ true
  pub fitting : fits ≡ true

pub taken : (t : Twofish) (G : Geometry) (long : ℕ) (placed fits : Bool) → given (refusals t G long placed fits) ≡ 0 → Taken t G long placed fits
unfolding refusals image_refusals image_length
taken t G long placed fits e =
    let a = given_none 1 _ _ e in
    let b = given_none 3 _ _ a.1 in
    let c = given_none 4 _ _ b.1 in
    let d = given_none 5 _ _ c.1 in
    let f = given_none 6 _ _ d.1 in
    let ranged = not-false _ b.0 in
    let whole = eqb-true _ _ (not-false _ c.0) in
    record {
      start = ltb-false _ _ a.0;
      geometry = ranged;
      whole = whole;
      small = omega (arith, whole, few_records G ranged);
      at_place = not-false _ d.0;
      fitting = not-false _ f.0;
    }

-- what holds of a call of seal that no refusal is given to
pub record Takes (t : Twofish) (G : Geometry) (long bank page n : ℕ) : Type 0 where
  pub start : t.start ≤ 2
  pub there : There G bank page
  pub reaches : reached G bank page ≡ true
  pub room : 272 * slot G bank page + 272 ≤ long
  pub small : long ≤ 17825792
  pub fits : n ≤ 256

pub takes : {t : Twofish} {G : Geometry} {long bank page n : ℕ} → seal_number t G long bank page n ≡ 0 → Takes t G long bank page n
unfolding seal_number
takes {t} {G} {long} {bank} {page} {n} e =
    let k = taken t G long _ _ e in
    let there = place k.geometry k.at_place in
    record {
      start = k.start;
      there = there;
      reaches = k.at_place;
      room = omega (arith, slot-room there, k.whole);
      small = k.small;
      fits = (up_to_256-true n k.fitting).1;
    }

-- the number of seal's refusal, by what its two tests say
pub seals :
    (t : Twofish) (G : Geometry) (long bank page n : ℕ) {m : ℕ} {placed fits : Bool} → placed ≡ reached G bank page → fits ≡ up_to_256 n
    → m ≡ given (refusals t G long placed fits) → m ≡ seal_number t G long bank page n
unfolding seal_number
seals t G long bank page n p f e = e ∙ ap₂ (λ (x y : Bool). given (refusals t G long x y)) p f

pub seal_takes :
    {t : Twofish} {G : Geometry} {long bank page n : ℕ} {placed fits : Bool} → placed ≡ reached G bank page → fits ≡ up_to_256 n
    → 0 ≡ given (refusals t G long placed fits) → Takes t G long bank page n
seal_takes p f e = takes (sym (seals _ _ _ _ _ _ p f e))

-- the record that a slice of the image is
module _ (G : Geometry) (bank page at : ℕ) (image : List ℕ) (e : at ≡ 272 * slot G bank page) where
  pub record_slice : take (at + 272 - at) (drop at image) ≡ record_at G bank page image
  unfolding record_at
  record_slice = let wide : at + 272 - at ≡ 272 = omega arith in ap₂ (λ (j k : ℕ). take j (drop k image)) wide e

  pub slice-length : 272 * slot G bank page + 272 ≤ length image → length (take (at + 272 - at) (drop at image)) ≡ 272
  slice-length h =
      let wide : at + 272 - at ≡ 272 = omega arith in
      length-take-le (at + 272 - at) (drop at image) (omega (arith, h, e, length-drop at image)) ∙ wide
