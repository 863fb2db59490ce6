-- A test that antt computes at every number below a bound, and what follows at each.
use Rattle.std.proofs.Common.{◌≡◌, ℕ, zero, suc, ◌<◌, Bool, true, false, T, eqb, sym, subst, ⊎_elim, le_of_suc-le-suc, not-suc-le-zero, eq-or-lt_of_le, eqb→eq}

abbrev pub both : Bool → Bool → Bool
both true b = b
both false b = false

both_l : (a b : Bool) → T (both a b) → T a
both_l true b t = tt
both_l false b t = t

both_r : (a b : Bool) → T (both a b) → T b
both_r true b t = t
both_r false b t = absurd t

-- f is true at every number below n
abbrev pub all : ℕ → (ℕ → Bool) → Bool
all zero f = true
all (suc n) f = both (f n) (all n f)

pub at : (n : ℕ) (f : ℕ → Bool) → T (all n f) → (k : ℕ) → k < n → T (f k)
at zero f t k h = absurd (not-suc-le-zero h)
at (suc n) f t k h =
    ⊎_elim
    (λ e. subst (λ (m : ℕ). T (f m)) (sym e) (both_l (f n) (all n f) t))
    (λ l. at n f (both_r (f n) (all n f) t) k l)
    (eq-or-lt_of_le (le_of_suc-le-suc h))

-- the same at two and three numbers
pub at₂ : (n m : ℕ) (f : ℕ → ℕ → Bool) → T (all n (λ a. all m (f a))) → (a b : ℕ) → a < n → b < m → T (f a b)
at₂ n m f t a b ha hb = at m (f a) (at n (λ x. all m (f x)) t a ha) b hb

pub at₃ :
    (n m l : ℕ) (f : ℕ → ℕ → ℕ → Bool) → T (all n (λ a. all m (λ b. all l (f a b)))) → (a b c : ℕ) → a < n → b < m
    → c < l → T (f a b c)
at₃ n m l f t a b c ha hb hc = at l (f a b) (at₂ n m (λ x y. all l (f x y)) t a b ha hb) c hc

-- two functions that agree below n by a computed test agree there
pub same : (n : ℕ) (f g : ℕ → ℕ) → T (all n (λ k. eqb (f k) (g k))) → (k : ℕ) → k < n → f k ≡ g k
same n f g t k h = eqb→eq (f k) (g k) (at n (λ i. eqb (f i) (g i)) t k h)
