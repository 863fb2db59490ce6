-- `listing::list_slots` meets its contract: each slot goes on where the last one ended.
use Rattle.std.proofs.Common.{◌≡◌, ℕ, ◌+◌, ◌*◌, List, [], sym, ap, ◌∙◌, refl, subst, drop, arith, rules}
use Rattle.std.specs.Io.KnownBytes.{Appends}
use Rattle.std.proofs.KnownBytes.{Appends-nil, Appends-trans}
use Rattle.listing.specs.Streams.{Drops}
use Rattle.listing.specs.Slot.{slot_verdict, is_right}
use Rattle.listing.specs.Listing.{slot_line, lines, right_count}
use Rattle.listing.proofs.StreamLaws.{known, known-both, Drops-none, Drops-trans, Drops-known}
use Rattle.listing.proofs.ListingLaws.{lines-more, right_count-more, from_bool-few}
use Rattle.listing.proofs.list_slots.Goals as goal

pub loop-slot-init : goal.loop-slot-init
unfolding lines right_count
loop-slot-init g c =
    let input = g.R.Read.remaining c.args.input.now in
    let output = g.W.Write.contents c.args.output.now in
    record {
      rest = Drops-none input;
      lines = known {A = List ℕ} (λ image. Appends output output []) input (λ image. Appends-nil output);
      right = known {A = List ℕ} (λ image. ◌≡◌ {A = ℕ} 0 0) input (λ image. refl);
      few = search rules;
    }

pub loop-slot-preserved : goal.loop-slot-preserved
loop-slot-preserved g c =
    let l = c.loop-slot in
    let o = c.args.opening in
    let n = l.slot in
    let input = g.R.Read.remaining c.args.input.now in
    let left = g.R.Read.remaining l.input in
    let before = g.W.Write.contents c.args.output.now in
    let between = g.W.Write.contents l.output in
    let after = g.W.Write.contents c.list_slot.new.output in
    let ok = c.in_ok-list_slot in
    let AreLines : List ℕ → Type 0 = λ image. Appends before between (lines o image n) in
    let IsLine : List ℕ → Type 0 = λ rest. Appends between after (slot_line o n rest) in
    let AreRight : List ℕ → Type 0 = λ image. l.right ≡ right_count o image n in
    let IsRight : List ℕ → Type 0 = λ rest. ok.field-0 ≡ is_right (slot_verdict o n rest) in
    let next : 272 * n + 272 ≡ 272 * (n + 1) = omega arith in
    record {
      rest = subst (Drops input _) next (Drops-trans input left _ (272 * n) 272 l.invariant.rest ok.ensures.rest);
      lines =
          known-both AreLines (λ image. IsLine (drop (272 * n) image)) _ input
          (λ image p q. subst (Appends before after) (sym (lines-more o image n)) (Appends-trans before between after _ _ p q))
          l.invariant.lines (Drops-known IsLine input left (272 * n) l.invariant.rest ok.ensures.line);
      right =
          known-both AreRight (λ image. IsRight (drop (272 * n) image)) _ input
          (λ image p q. ap (λ k. l.right + k) c.from.ensures ∙ right_count-more o image n l.right ok.field-0 p q)
          l.invariant.right (Drops-known IsRight input left (272 * n) l.invariant.rest ok.ensures.right);
      few = omega (arith, l.invariant.few, c.from.ensures, from_bool-few ok.field-0);
    }
