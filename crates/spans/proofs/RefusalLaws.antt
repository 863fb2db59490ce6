-- Laws of the number given: it is a refusal's exactly when its condition holds and none before it does, and 0 exactly when none holds.
use mathlib.Core.Path.{◌≡◌, refl, sym, ap, subst, ◌∙◌}
use mathlib.Core.Bool.{Bool, true, false, not, ◌&&◌}
use mathlib.Core.List.{List, [], ◌∷◌, ◌++◌, append-nil}
use Prim.Native.Nat.{ℕ, suc}
use native.Mathlib.Omega.{arith}
use borrow.Author.Tests.{eq-eqb, ne_eqb}
use lib.Dec.{T, eqb}
use Rattle.std.specs.Prelude.{cond}
use Rattle.spans.specs.Refusals.{Line, ◌when◌, given, leaves}

-- no condition of the list holds
abbrev pub NoneHolds : List Line → Type 0
NoneHolds [] = Unit {0}
NoneHolds (r ∷ rs) = (r.holds ≡ false) × NoneHolds rs

-- every number of the list is another than n, as a test
abbrev pub others : ℕ → List Line → Bool
others n [] = true
others n (r ∷ rs) = not (eqb r.number n) && others n rs

both : (a b : Bool) → T (a && b) → T a × T b
both true b h = (tt, h)
both false b h = absurd h

-- where none holds the list gives way to what follows
pub given_after : (rs ss : List Line) → NoneHolds rs → given (rs ++ ss) ≡ given ss
unfolding given
given_after [] ss h = refl
given_after (r ∷ rs) ss h = rw h.0 (given_after rs ss h.1)

passed : (t : Bool) (k m n : ℕ) → T (not (eqb k n)) → cond t k m ≡ n → (t ≡ false) × (m ≡ n)
passed true k m n h e = absurd (subst (λ (b : Bool). T (not b)) (eq-eqb k n e) h)
passed false k m n h e = (refl, e)

-- a number that the list does not have is given only where none of it holds
pub given_other : (n : ℕ) (rs ss : List Line) → T (others n rs) → given (rs ++ ss) ≡ n → NoneHolds rs × (given ss ≡ n)
unfolding given
given_other n [] ss o e = (tt, e)
given_other n (r ∷ rs) ss o e =
    let b = both (not (eqb r.number n)) (others n rs) o in
    let h = passed r.holds r.number (given (rs ++ ss)) n b.0 e in
    let k = given_other n rs ss b.1 h.1 in
    ((h.0, k.0), k.1)

-- a number that the list does not have is never given
pub never_given : (n : ℕ) (rs : List Line) → (n ≡ 0 → ⊥) → T (others n rs) → given rs ≡ n → ⊥
unfolding given
never_given n rs some o e = some (sym (given_other n rs [] o (ap given (append-nil rs) ∙ e)).1)

-- nothing is given only where the first condition fails and nothing is given after it
pub given_none : (n : ℕ) (t : Bool) (rs : List Line) → given (suc n when t ∷ rs) ≡ 0 → (t ≡ false) × (given rs ≡ 0)
unfolding given
given_none n true rs e = absurd (omega (arith, e))
given_none n false rs e = (refl, e)

-- what is given stays given, whatever follows
pub given_kept : (rs ss : List Line) → (given rs ≡ 0 → ⊥) → given (rs ++ ss) ≡ given rs
unfolding given
given_kept [] ss n = absurd (n refl)
given_kept (r ∷ rs) ss n = by r.holds n (given_kept rs ss)
  where
    by :
        (b : Bool) → (cond b r.number (given rs) ≡ 0 → ⊥) → ((given rs ≡ 0 → ⊥) → given (rs ++ ss) ≡ given rs)
        → cond b r.number (given (rs ++ ss)) ≡ cond b r.number (given rs)
    by true m k = refl
    by false m k = k m

-- what is given last counts only where nothing is given before it
pub given_last : (rs ss zs : List Line) → (given rs ≡ 0 → given ss ≡ given zs) → given (rs ++ ss) ≡ given (rs ++ zs)
unfolding given
given_last [] ss zs h = h refl
given_last (r ∷ rs) ss zs h = by r.holds h (given_last rs ss zs)
  where
    by :
        (b : Bool) → (cond b r.number (given rs) ≡ 0 → given ss ≡ given zs)
        → ((given rs ≡ 0 → given ss ≡ given zs) → given (rs ++ ss) ≡ given (rs ++ zs))
        → cond b r.number (given (rs ++ ss)) ≡ cond b r.number (given (rs ++ zs))
    by true k m = refl
    by false k m = m k

-- a number of the list is given exactly when its condition holds and none before it does
pub given_exactly :
    (n : ℕ) (b : Bool) (rs ss : List Line) → (n ≡ 0 → ⊥) → T (others n rs) → T (others n ss)
    → (given (rs ++ n when b ∷ ss) ≡ n → NoneHolds rs × (b ≡ true)) × (NoneHolds rs → b ≡ true → given (rs ++ n when b ∷ ss) ≡ n)
unfolding given
given_exactly n b rs ss some o o' =
    (λ e. let k = given_other n rs (n when b ∷ ss) o e in (k.0, held b k.1), λ none h. given_after rs (n when b ∷ ss) none ∙ ap (λ (c : Bool). cond c n (given ss)) h)
  where
    held : (c : Bool) → cond c n (given ss) ≡ n → c ≡ true
    held true e = refl
    held false e = absurd (never_given n ss some o' e)

-- and 0 exactly when none holds
pub given_zero : (rs : List Line) → T (others 0 rs) → (given rs ≡ 0 → NoneHolds rs) × (NoneHolds rs → given rs ≡ 0)
unfolding given
given_zero rs o = (λ e. (given_other 0 rs [] o (ap given (append-nil rs) ∙ e)).0, λ none. ap given (sym (append-nil rs)) ∙ given_after rs [] none)

-- a refusal changes no byte
pub refusal_leaves : (n : ℕ) (x l : List ℕ) → (n ≡ 0 → ⊥) → leaves n x l ≡ l
unfolding leaves
refusal_leaves n x l some = ap (λ (b : Bool). cond b x l) (ne_eqb n 0 some)
