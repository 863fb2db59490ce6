-- `listing::list_slot` meets its contract: what was read is what is judged, and what is said of it is what is written.
use Rattle.std.proofs.Common.{◌≡◌, ◌∙◌, ap, subst, take, IfSome}
use Rattle.std.specs.Io.KnownBytes.{Appends}
use Rattle.listing.specs.Slot.{slot_verdict, is_right}
use Rattle.listing.proofs.StreamLaws.{known-map, Takes-first}
use Rattle.listing.proofs.ListingLaws.{slot_verdict-taken, slot_line-taken}
use Rattle.listing.proofs.list_slot.Given.{Over}
use Rattle.listing.proofs.list_slot.Goals as goal

-- what is said of the slot
said : (g : Over) (c : goal.After-is_right g) → IfSome (g.R.Read.remaining c.args.input.now) (λ rest. c.judge-verdict.result ≡ slot_verdict c.args.opening c.args.slot rest)
said g c =
    let a = c.args in
    known-map (λ rest. take c.in_ok-n.n c.fill.new.buf ≡ take 272 rest) _ (g.R.Read.remaining a.input.now)
    (λ rest e. slot_verdict-taken a.opening a.slot rest _ _ e c.judge-verdict.ensures)
    (Takes-first (g.R.Read.remaining a.input.now) (g.R.Read.remaining c.fill.new.input) 272 _ c.in_ok-n.ensures.bytes)

pub returns-clause-line : goal.returns-clause-line
returns-clause-line g c =
    let a = c.args in
    known-map (λ rest. c.judge-verdict.result ≡ slot_verdict a.opening a.slot rest) _ (g.R.Read.remaining a.input.now)
    (λ rest e. subst (Appends _ _) (slot_line-taken a.opening a.slot rest _ e) c.in_ok-write_line.ensures) (said g c)

pub returns-clause-right : goal.returns-clause-right
returns-clause-right g c =
    let a = c.args in
    known-map (λ rest. c.judge-verdict.result ≡ slot_verdict a.opening a.slot rest) _ (g.R.Read.remaining a.input.now)
    (λ rest e. c.is_right.ensures ∙ ap is_right e) (said g c)
