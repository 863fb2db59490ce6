-- `listing::list_image` meets its contract: the slots, the summary, and whether a byte is left.
use Rattle.std.proofs.Common.{◌≡◌, ℕ, ◌*◌, List, ◌++◌, ap₂, ◌∙◌, sym, subst, take, drop, append-nil, IfSome}
use Rattle.std.specs.Io.KnownBytes.{Appends}
use Rattle.std.proofs.KnownBytes.{Appends-trans}
use Rattle.listing.specs.Slot.{slots}
use Rattle.listing.specs.Listing.{lines, right_count, summary}
use Rattle.listing.proofs.StreamLaws.{known-both, Takes-first, Drops-known}
use Rattle.listing.proofs.ListingLaws.{listed-written, extra-some, extra-none}
use Rattle.listing.proofs.list_image.Given.{Over}
use Rattle.listing.proofs.list_image.Goals as goal
use Rattle.listing.proofs.list_image.Goals.{In_ok-n}

-- the lines and the summary are written, and a byte can be taken if one is left
module _ (g : Over) (c : In_ok-n g) where
  abbrev Written : List ℕ → Type 0
  Written image =
      let o = c.args.opening in
      let m = slots o.geometry in
      Appends (g.W.Write.contents c.args.output.now) (g.W.Write.contents c.write_summary.new.output) (lines o image m ++ summary (right_count o image m) m)

  written : IfSome (g.R.Read.remaining c.args.input.now) Written
  written =
      let o = c.args.opening in
      let m = slots o.geometry in
      let before = g.W.Write.contents c.args.output.now in
      let between = g.W.Write.contents c.list_slots.new.output in
      let after = g.W.Write.contents c.write_summary.new.output in
      known-both (λ image. Appends before between (lines o image m)) (λ image. c.in_ok-right.right ≡ right_count o image m) Written (g.R.Read.remaining c.args.input.now)
      (λ image p q.
      subst (Appends before after) (ap₂ (λ (r k : ℕ). lines o image m ++ summary r k) q c.slots-slots.ensures)
      (Appends-trans before between after _ _ p c.in_ok-write_summary.ensures))
      c.in_ok-right.ensures.lines c.in_ok-right.ensures.right

  abbrev Left : List ℕ → Type 0
  Left image = take c.in_ok-n.n c.fill.new.buf ≡ take 1 (drop (272 * slots c.args.opening.geometry) image)

  left : IfSome (g.R.Read.remaining c.args.input.now) Left
  left =
      let rest = g.R.Read.remaining c.list_slots.new.input in
      Drops-known (λ rest. take c.in_ok-n.n c.fill.new.buf ≡ take 1 rest) (g.R.Read.remaining c.args.input.now) rest _ c.in_ok-right.ensures.rest
      (Takes-first rest (g.R.Read.remaining c.fill.new.input) 1 _ c.in_ok-n.ensures.bytes)

pub returns-in_ok-writeln : goal.returns-in_ok-writeln
returns-in_ok-writeln g c =
    let d = (goal.at.returns-in_ok-writeln g c).In_ok-n in
    let o = c.args.opening in
    let before = g.W.Write.contents c.args.output.now in
    let between = g.W.Write.contents c.write_summary.new.output in
    let after = g.W.Write.contents c.writeln.new.self in
    known-both (Written g d) (Left g d) _ (g.R.Read.remaining c.args.input.now)
    (λ image p q.
    subst (Appends before after) (listed-written o image _ (extra-some o.geometry image _ c.in_ok-n.n c.if-n-gt0.true c.in_ok-n.ensures.bound q))
    (Appends-trans before between after _ _ p c.in_ok-writeln.ensures.bytes))
    (written g d) (left g d)

pub returns-else-n-gt0 : goal.returns-else-n-gt0
returns-else-n-gt0 g c =
    let d = (goal.at.returns-else-n-gt0 g c).In_ok-n in
    let o = c.args.opening in
    known-both (Written g d) (Left g d) _ (g.R.Read.remaining c.args.input.now)
    (λ image p q. subst (Appends _ _) (sym (append-nil _) ∙ listed-written o image _ (extra-none o.geometry image _ c.in_ok-n.n c.if-n-gt0.false q)) p)
    (written g d) (left g d)
