-- `sbox::permuted_at` meets its contract: the statics are the paper's, and past its end the order has zeros.
use Rattle.std.proofs.Common.{◌≡◌, ℕ, zero, suc, ◌≤◌, List, [], length, get_or, sym, ap, ◌∙◌, arith, lit≤}
use Rattle.std.proofs.Math.ListN.{get_or-eq_default}
use Rattle.field.specs.Matrix.{entry}
use Rattle.sbox.specs.Q.{q_of, qbox, qord}
use Rattle.sbox.proofs.permuted_at.Goals as goal
use Rattle.sbox.proofs.permuted_at.Goals.{then-j-lt4+then-z-lt5, else-j-lt4, else-j-lt4-via-then-j-lt4+else-z-lt5, else-j-lt4-via-else-j-lt4}

-- no row is longer than five
short : (j : ℕ) → length (get_or qord j []) ≤ 5
unfolding qord
short zero = lit≤ tt
short (suc zero) = lit≤ tt
short (suc (suc zero)) = lit≤ tt
short (suc (suc (suc zero))) = lit≤ tt
short (suc (suc (suc (suc j)))) = lit≤ tt

beside : (j z : ℕ) → 5 ≤ z → 0 ≡ entry qord j z
unfolding entry
beside j z h = sym (get_or-eq_default (get_or qord j []) 0 {n = z} (omega (arith, short j, h)))

below : (j z : ℕ) → 4 ≤ j → 0 ≡ entry qord j z
unfolding entry qord
below j z h = sym (ap (λ (r : List ℕ). get_or r z 0) (get_or-eq_default qord [] {n = j} h))

pub returns : goal.returns
unfolding entry qord qbox
returns c =
    c.sbox.ensures
    ∙ ap (λ (i : ℕ). q_of qbox i c.args.x)
    (elim c.if-j-lt4.branch [
      | then-j-lt4+then-z-lt5 w ↦ w.i-is
      | else-j-lt4 w ↦ w.i-is ∙ elim w.else-j-lt4.branch [
        | else-j-lt4-via-then-j-lt4+else-z-lt5 w' ↦ beside c.args.j c.args.z (omega arith)
        | else-j-lt4-via-else-j-lt4 w' ↦ below c.args.j c.args.z (omega arith)
      ]
    ])
