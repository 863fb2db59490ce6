-- Which slots count, and the three conditions on a slot: exactly one holds, so the totals add up.
use Rattle.std.proofs.Common.{◌≡◌, ℕ, zero, suc, ◌+◌, ◌*◌, ◌/◌, ◌%◌, ◌<◌, ◌≤◌, Bool, true, false, not, ◌&&◌, ◌||◌, cond, eqb, ltb, List, refl, sym, ap, ap₂, ◌∙◌, arith}
use Rattle.std.proofs.lemmas.Nat.{div_below, mod_below}
use borrow.Author.Tests.{lt-ltb, le-ltb}
use lib.Pointwise.{pointwise}
use Rattle.twofish.specs.declared.Twofish.{Twofish}
use Rattle.sealed.specs.declared.Geometry.{Geometry}
use Rattle.sealed.specs.declared.Seen.{Seen}
use Rattle.sealed.specs.declared.Seen.TheVariants.{Own, Other, NoPlace}
use Rattle.sealed.specs.Image.{reached}
use Rattle.masks.specs.Masks.{how_many}
use Rattle.masks.proofs.Counting.{how_many-all, how_many-one_of}
use Rattle.report.specs.declared.Compared.{Compared}
use Rattle.report.specs.declared.Compared.TheVariants.{Same, Changed, Unreadable}
use Rattle.report.specs.Slots.{counts, seen, finds_changed, is_own, is_refused, plain, is_same, is_changed, is_unreadable, page_changed, slot_that, slots_that}

-- a page of a bank that is there counts
pub page_counts : (G : Geometry) (bank page : ℕ) → bank < G.banks → page < G.pages → (reached G bank page ≡ true) × (counts G bank page ≡ true)
unfolding counts reached
page_counts G bank page b p = let h : (reached G bank page ≡ true) = ap₂ ◌&&◌ (lt-ltb _ _ b) (lt-ltb _ _ p) in (h, h)

-- and a page that is not does not
pub no_page : (t : Twofish) (G : Geometry) (old new : List ℕ) (bank page : ℕ) → G.pages ≤ page → page_changed t G old new bank page ≡ false
unfolding page_changed counts reached
no_page t G old new bank page h = by (ltb bank G.banks) (ltb page G.pages) (is_changed t G old new bank page) (le-ltb _ _ h)
  where
    by : (a b x : Bool) → b ≡ false → (a && b && x) ≡ false
    by true b x e = rw e refl
    by false b x e = refl

-- so a page that counts changed where its slot did
pub page_changed-there :
    (t : Twofish) (G : Geometry) (old new : List ℕ) (bank page : ℕ) (b : Bool) → bank < G.banks → page < G.pages → b ≡ is_changed t G old new bank page
    → page_changed t G old new bank page ≡ b
unfolding page_changed
page_changed-there t G old new bank page b h k e = ap₂ ◌&&◌ (page_counts G bank page h k).1 (sym e)

-- what is found is not changed where it is another
pub found_other : (c : Compared) → (c ≡ Changed → ⊥) → finds_changed c ≡ false
found_other Same n = refl
found_other Changed n = absurd (n refl)
found_other Unreadable n = refl

-- every slot is that of a page of a bank, and counts
pub slot_place : (G : Geometry) (slot : ℕ) → slot < G.pages * G.banks → (slot / G.pages < G.banks) × (slot % G.pages < G.pages)
slot_place G slot h = by G.pages h
  where
    by : (n : ℕ) → slot < n * G.banks → (slot / n < G.banks) × (slot % n < n)
    by zero k = absurd (omega (arith, k))
    by (suc n) k = (div_below slot (suc n) G.banks (omega arith) (omega (arith, k)), mod_below slot (suc n) (omega arith))

pub slot_counts : (G : Geometry) (slot : ℕ) → slot < G.pages * G.banks → counts G (slot / G.pages) (slot % G.pages) ≡ true
slot_counts G slot h = let p = slot_place G slot h in (page_counts G (slot / G.pages) (slot % G.pages) p.0 p.1).1

-- so one slot more counts by its test
pub slots_that-more :
    (G : Geometry) (f : ℕ → ℕ → Bool) (slot n m : ℕ) (b : Bool) → slot < G.pages * G.banks → n ≡ how_many (slot_that G f) slot
    → b ≡ f (slot / G.pages) (slot % G.pages) → m ≡ n + cond b 1 0 → m ≡ how_many (slot_that G f) (slot + 1)
unfolding how_many slot_that
slots_that-more G f slot n m b h e k l =
    let next : slot + 1 ≡ suc slot = omega arith in
    l
    ∙ ap₂ (λ (i : ℕ) (x : Bool). i + cond x 1 0) e k
    ∙ ap (λ (x : Bool). how_many (slot_that G f) slot + cond (x && f (slot / G.pages) (slot % G.pages)) 1 0) (sym (slot_counts G slot h))
    ∙ ap (how_many (slot_that G f)) (sym next)

-- exactly one of the three conditions holds of every slot
pub one_of_three :
    (t : Twofish) (G : Geometry) (old new : List ℕ) (bank page : ℕ)
    → cond (is_same t G old new bank page) 1 0 + cond (is_changed t G old new bank page) 1 0 + cond (is_unreadable t G old new bank page) 1 0 ≡ 1
unfolding is_same is_changed is_unreadable
one_of_three t G old new bank page = by (seen t G old bank page) (seen t G new bank page) (pointwise eqb (plain t G old bank page) (plain t G new bank page))
  where
    by :
        (s s' : Seen) (b : Bool)
        → cond (is_own s && is_own s' && b) 1 0 + cond (is_own s && is_own s' && not b) 1 0 + cond (is_refused s || is_refused s') 1 0 ≡ 1
    by Own Own true = refl
    by Own Own false = refl
    by Own (Other l) b = refl
    by Own NoPlace b = refl
    by (Other l) s' b = refl
    by NoPlace s' b = refl

-- how many slots count
abbrev pub slots_counted : Geometry → ℕ
slots_counted G = slots_that G (λ bank page. true)

-- the three totals add up to them
pub totals_counted :
    (t : Twofish) (G : Geometry) (old new : List ℕ)
    → slots_that G (is_same t G old new) + slots_that G (is_changed t G old new) + slots_that G (is_unreadable t G old new) ≡ slots_counted G
unfolding slots_that slot_that
totals_counted t G old new =
    how_many-one_of (slot_that G (is_same t G old new)) (slot_that G (is_changed t G old new)) (slot_that G (is_unreadable t G old new))
    (slot_that G (λ bank page. true)) (G.pages * G.banks)
    (λ s h. by (counts G (s / G.pages) (s % G.pages)) _ _ _ (one_of_three t G old new (s / G.pages) (s % G.pages)))
  where
    by : (a x y z : Bool) → cond x 1 0 + cond y 1 0 + cond z 1 0 ≡ 1 → cond (a && x) 1 0 + cond (a && y) 1 0 + cond (a && z) 1 0 ≡ cond (a && true) 1 0
    by true x y z e = e
    by false x y z e = refl

-- which are all
pub slots_counted-all : (G : Geometry) → slots_counted G ≡ G.pages * G.banks
unfolding slots_that slot_that
slots_counted-all G = how_many-all (slot_that G (λ bank page. true)) (G.pages * G.banks) (λ s h. ap (λ (b : Bool). b && true) (slot_counts G s h))

-- so they add up to the number of slots
pub totals_add_up :
    (t : Twofish) (G : Geometry) (old new : List ℕ)
    → slots_that G (is_same t G old new) + slots_that G (is_changed t G old new) + slots_that G (is_unreadable t G old new) ≡ G.pages * G.banks
totals_add_up t G old new = totals_counted t G old new ∙ slots_counted-all G
