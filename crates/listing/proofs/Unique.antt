-- Each public function's promise admits one outcome; that of `list` where the bytes of its reader and its writer are known and it does not fail.
use Rattle.std.proofs.Common.{◌≡◌, List, ℕ, Option, Some, None, Result, Ok, Err, OnOk, IfSome, sym, ap, ◌∙◌}
use Rattle.std.specs.Io.KnownBytes.{Appends}
use denote.RattleType.{RattleType}
use denote.Param.Laws.{Laws}
use mir.Syntax.{Dict}
use Rattle.std.specs.declared.io.traits.Read.{Ghosts as ReadGhosts}
use Rattle.std.specs.declared.io.traits.Write.{Ghosts as WriteGhosts}
use Rattle.words.proofs.Outcome.{OneResult}
use Rattle.listing.specs.Listing.{listing}
use Rattle.listing.proofs.Opening.parse.Reads as parse
use Rattle.listing.proofs.judge.Reads as judge
use Rattle.listing.proofs.list.Reads as list

pub parse_one : OneResult parse.Post
parse_one κ a r r' s s' p p' = p.0 ∙ sym p'.0

pub judge_one : OneResult judge.Post
judge_one κ a r r' s s' p p' = p ∙ sym p'

-- what a promise says of known bytes: two runs that succeed leave the writer with the same
abbrev pub OneWritten {i j k} :
    {L : Type i} {A : L → Type j} {S : L → Type k} {T E : L → Type 0} → ((κ : L) → A κ → Result (T κ) (E κ) → S κ → Type 0)
    → ((κ : L) → A κ → Option (List ℕ)) → ((κ : L) → A κ → Option (List ℕ)) → ((κ : L) → S κ → Option (List ℕ)) → Type (i ⊔ j ⊔ k)
OneWritten {L = L} {A = A} {S = S} {T = T} {E = E} Post left before after =
    (κ : L) (a : A κ) (r r' : Result (T κ) (E κ)) (s s' : S κ) → Post κ a r s → Post κ a r' s'
    → OnOk r (OnOk r' (IfSome (left κ a) (λ _. IfSome (before κ a) (λ _. after κ s ≡ after κ s'))))

appended_one : {T E : Type 0} (f : List ℕ → List ℕ) (left a b b' : Option (List ℕ)) (r r' : Result T E)
    → OnOk r (IfSome left (λ bytes. Appends a b (f bytes))) → OnOk r' (IfSome left (λ bytes. Appends a b' (f bytes)))
    → OnOk r (OnOk r' (IfSome left (λ _. IfSome a (λ _. b ≡ b'))))
appended_one f left a b b' (Err e) r' p q = tt
appended_one f left a b b' (Ok x) (Err e) p q = tt
appended_one f None a b b' (Ok x) (Ok y) p q = tt
appended_one f (Some l) None b b' (Ok x) (Ok y) p q = tt
appended_one f (Some l) (Some w) None b' (Ok x) (Ok y) p q = absurd p
appended_one f (Some l) (Some w) (Some v) None (Ok x) (Ok y) p q = absurd q
appended_one f (Some l) (Some w) (Some v) (Some v') (Ok x) (Ok y) p q = ap (λ (m : List ℕ). Some m) (p ∙ sym q)

module _ (R W : RattleType) (r : Laws R) (w : Laws W) (read : ReadGhosts R.Denot) (d : Dict) (write : WriteGhosts W.Denot) (e : Dict) where
  pub list_one : OneWritten (list.Post R W r w read d write e) (λ κ a. read.remaining a.0.now) (λ κ a. write.contents a.1.0.now) (λ κ s. write.contents s.1.0.now)
  list_one κ a x x' s s' p p' = appended_one listing _ _ _ _ x x' p p'
