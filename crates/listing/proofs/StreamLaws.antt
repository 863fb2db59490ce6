-- Laws of readers whose bytes are known, and of what is written in pieces.
use Rattle.std.proofs.Common.{◌≡◌, ℕ, ◌+◌, ◌≤◌, List, ◌++◌, Option, Some, None, IfSome, Result, OnOk, subst, refl, ap, ◌∙◌, length, take, drop, drop_at, length-take-le, drop-drop}
use Rattle.std.proofs.lemmas.Result.{on_ok_weaker}
use Rattle.std.specs.Io.KnownBytes.{Appends}
use Rattle.std.proofs.KnownBytes.{Appends-trans}
use Rattle.listing.specs.Streams.{Takes, Drops}
use borrow.Rule.Slice.PartMut.{put_mid, post_of, take_put}
use lib.Seq.{take-add, take-append-le}

-- the front of a buffer after n bytes more came into it
pub take-put_mid-more : (a k n : ℕ) (xs ys : List ℕ) → a ≤ length xs → n ≤ length ys → take (a + n) (put_mid a k xs ys) ≡ take a xs ++ take n ys
take-put_mid-more a k n xs ys within fits =
    take-add a n (put_mid a k xs ys) ∙ ap (λ l. l ++ take n (drop a (put_mid a k xs ys))) (take_put a k xs ys within)
    ∙ ap (λ l. take a xs ++ take n l) (drop_at (take a xs) (ys ++ post_of a k xs) a (length-take-le a xs within))
    ∙ ap (λ l. take a xs ++ l) (take-append-le n ys (post_of a k xs) fits)

-- what holds of known bytes, from what holds of any, of one fact, and of two
pub known : {A : Type 0} (P : A → Type 0) (a : Option A) → ((x : A) → P x) → IfSome a P
known P None f = tt
known P (Some x) f = f x

pub known-map : {A : Type 0} (P Q : A → Type 0) (a : Option A) → ((x : A) → P x → Q x) → IfSome a P → IfSome a Q
known-map P Q None f p = tt
known-map P Q (Some x) f p = f x p

pub known-both : {A : Type 0} (P Q S : A → Type 0) (a : Option A) → ((x : A) → P x → Q x → S x) → IfSome a P → IfSome a Q → IfSome a S
known-both P Q S None f p q = tt
known-both P Q S (Some x) f p q = f x p q

-- what is taken is gone
pub Takes-drops : (a b : Option (List ℕ)) (n : ℕ) (bs : List ℕ) → Takes a b n bs → Drops a b n
Takes-drops None b n bs t = tt
Takes-drops (Some x) None n bs t = absurd t
Takes-drops (Some x) (Some y) n bs t = t.1

-- what is taken first
pub Takes-first : (a b : Option (List ℕ)) (n : ℕ) (bs : List ℕ) → Takes a b n bs → IfSome a (λ xs. bs ≡ take n xs)
Takes-first None b n bs t = tt
Takes-first (Some x) None n bs t = absurd t
Takes-first (Some x) (Some y) n bs t = t.0

-- at first none are gone
pub Drops-none : (a : Option (List ℕ)) → Drops a a 0
Drops-none None = tt
Drops-none (Some x) = refl

-- first m are gone, then n more
pub Drops-trans : (a b c : Option (List ℕ)) (m n : ℕ) → Drops a b m → Drops b c n → Drops a c (m + n)
Drops-trans None b c m n p q = tt
Drops-trans (Some x) None c m n p q = absurd p
Drops-trans (Some x) (Some y) None m n p q = absurd q
Drops-trans (Some x) (Some y) (Some z) m n p q = q ∙ ap (drop n) p ∙ drop-drop n m x

-- what is known of the bytes left after m are gone
pub Drops-known : (P : List ℕ → Type 0) (a b : Option (List ℕ)) (m : ℕ) → Drops a b m → IfSome b P → IfSome a (λ xs. P (drop m xs))
Drops-known P None b m p q = tt
Drops-known P (Some x) None m p q = absurd p
Drops-known P (Some x) (Some y) m p q = rw (← p) q

-- three pieces written one after the other
pub Appends-three :
    {T E : Type 0} (r : Result T E) (a b c d : Option (List ℕ)) (x y z w : List ℕ) → x ++ (y ++ z) ≡ w → Appends a b x → Appends b c y
    → OnOk r (Appends c d z) → OnOk r (Appends a d w)
Appends-three r a b c d x y z w e p q =
    on_ok_weaker r (λ s. subst (Appends a d) e (Appends-trans a b d x (y ++ z) p (Appends-trans b c d y z q s)))
