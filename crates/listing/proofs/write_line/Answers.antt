-- `listing::write_line` meets its contract: the place, a space, and what is said.
use Rattle.std.proofs.Common.{List, ◌∷◌, ◌++◌, ℕ, ap}
use Rattle.listing.specs.Listing.{said, ended, line}
use Rattle.listing.proofs.StreamLaws.{Appends-three}
use Rattle.listing.proofs.write_line.Goals as goal

pub returns : goal.returns
unfolding line
returns g c =
    Appends-three c.write_verdict.result _ _ _ _ _ _ _ _ (ap (λ (p : List ℕ). p ++ 32 ∷ ended (said c.args.verdict)) c.place_text.ensures)
    c.in_ok-write_all.ensures.bytes c.in_ok-write_all-2.ensures.bytes c.write_verdict.ensures
