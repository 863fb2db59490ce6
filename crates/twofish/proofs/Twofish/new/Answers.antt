-- `Twofish::new` meets its contract: a length that is taken gives the schedule of the padded key, any other the refused one.
use Rattle.std.proofs.Common.{◌≡◌, ℕ, ◌≤◌, List, length, take, sym, ap, ◌∙◌, arith, rules}
use Rattle.twofish.specs.Schedule.{schedule, padded, units, handed_back}
use Rattle.twofish.proofs.PaddingLaws.{taken_fits, size_units, padded-length, padded_part, padded_units, padded_bytes}
use Rattle.twofish.proofs.ScheduleLaws.{set_up_taken, set_up_refused}
use Rattle.twofish.proofs.Twofish.new.Goals as goal
use Rattle.twofish.proofs.Twofish.new.Goals.{After-size}

-- what holds of a key that is taken, once its zeros are there
fits : (c : After-size) → length c.args.key.now ≤ 32
fits c = (taken_fits _ (sym c.taken.ensures ∙ c.if-not-taken.false)).1

made : (c : After-size) → take c.size.result c.with_zeros-m.result ≡ padded c.args.key.now
made c = padded_part c.args.key.now _ _ (fits c) c.with_zeros-m.ensures c.size.ensures

pub returns-then-not-taken : goal.returns-then-not-taken
unfolding handed_back
returns-then-not-taken c = set_up_refused c.args.key.now (sym c.taken.ensures ∙ c.if-not-taken.true)

pub with_zeros-m-requires : goal.with_zeros-m-requires
with_zeros-m-requires c = (taken_fits _ (sym c.taken.ensures ∙ c.if-not-taken.false)).1

pub slice_bounds-m-end : goal.slice_bounds-m-end
slice_bounds-m-end c =
    let all : length c.with_zeros-m.result ≡ 32 = search rules in
    omega (arith, all, c.size.ensures, size_units (length c.args.key.now))

pub slice_bounds-key-end : goal.slice_bounds-key-end
slice_bounds-key-end c =
    let k = (goal.at.slice_bounds-key-end c).After-size in
    c.size.ensures ∙ sym (ap length (made k) ∙ padded-length c.args.key.now (fits k))

pub invariant_of-key : goal.invariant_of-key
invariant_of-key c =
    let k = (goal.at.invariant_of-key c).After-size in
    let p = made k in
    let u = padded_units c.args.key.now (fits k) in
    record {
      whole = rw p record { long = u.0; byte = padded_bytes c.args.key.now (λ i. search rules) };
      few = rw p u.2;
    }

pub returns : goal.returns
unfolding handed_back
returns c =
    set_up_taken c.args.key.now _ (sym c.taken.ensures ∙ c.if-not-taken.false)
    (c.key_schedule.ensures ∙ ap (λ (m : List ℕ). schedule m (units m)) (made (goal.at.returns c).After-size))
