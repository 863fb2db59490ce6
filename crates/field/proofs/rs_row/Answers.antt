-- `field::rs_row` meets its contract: a turn adds a product, and bytes that m does not have count as 0.
use Rattle.std.proofs.Common.{◌≡◌, ℕ, ◌+◌, ◌<◌, ◌≤◌, List, [], ◌∷◌, length, get_or, drop, length-append, length-drop, ⊎_elim, rules, sym, ap, ap₂, ◌∙◌, arith}
use Rattle.std.proofs.lemmas.List.{drop_more}
use Rattle.field.specs.Field.{mul}
use Rattle.field.specs.Matrix.{rs_poly, row_times, entry}
use Rattle.field.proofs.Rows.{row_more, row_short}
use Rattle.field.proofs.rs_row.Goals as goal

-- what comes next in a list, and what is left after it
next : {x : ℕ} {xs : List ℕ} (l : List ℕ) (j : ℕ) → drop j l ≡ x ∷ xs → (j < length l) × (x ≡ get_or l j 0) × (xs ≡ drop (j + 1) l)
next l j e =
    let more : j < length l = omega (arith, ap length e, length-drop j l) in
    let f = drop_more l j 0 more in
    (more, cc, cc)

pub loop-b-init : goal.loop-b-init
unfolding row_times
loop-b-init c = search rules

pub loop-b-preserved : goal.loop-b-preserved
unfolding entry
loop-b-preserved c =
    let i = c.loop-b.invariant in
    let j = length c.loop-b.yielded in
    let b = next c.args.m.now j (sym i.bytes ∙ c.in-Some.ensures.steps.0) in
    let e = next c.args.row.now j (sym i.entries ∙ c.in-Some.ensures.steps.1) in
    rw length-append
    (record {
      sum = row_more rs_poly (c.args.row.now ∷ []) 0 c.args.m.now j c.loop-b.out _ i.sum (c.gf_mult-out.ensures ∙ ap₂ (mul rs_poly) b.1 e.1);
      bytes = b.2;
      entries = e.2;
      turns = omega arith;
    })

pub returns : goal.returns
returns c =
    let i = c.loop-b.invariant in
    let j = length c.loop-b.yielded in
    let m = c.args.m.now in
    let row = row_short rs_poly (c.args.row.now ∷ []) 0 m in
    i.sum
    ∙ ⊎_elim
    (λ h. let short : length m ≤ j = omega (arith, h.1.0, ap length i.bytes, length-drop j m) in
    row j short ∙ sym (row 8 (omega arith)))
    (λ h. ap (row_times rs_poly (c.args.row.now ∷ []) 0 m) (omega (arith, h.1.0, ap length i.entries, length-drop j c.args.row.now)))
    c.in-None.ensures.steps
