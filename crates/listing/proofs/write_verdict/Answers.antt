-- `listing::write_verdict` meets its contract: the pieces of what is said, one after the other.
use Rattle.std.proofs.Common.{List, [], ◌∷◌, ◌++◌, ℕ, sym, ap, ◌∙◌}
use Rattle.std.specs.Prelude.{codes}
use Rattle.listing.specs.declared.Verdict.{Verdict}
use Rattle.listing.specs.Listing.{said, ended}
use Rattle.listing.proofs.StreamLaws.{Appends-three}
use Rattle.listing.proofs.write_verdict.Goals as goal

pub returns-in_ok-write_all-in-Holds-2 : goal.returns-in_ok-write_all-in-Holds-2
returns-in_ok-write_all-in-Holds-2 g c =
    Appends-three c.write_all-in-Holds-3.result _ _ _ _ _ _ _ _
    (ap (λ (p : List ℕ). codes "holds " ++ (p ++ 10 ∷ [])) c.place_text.ensures ∙ sym (ap (λ (v : Verdict). ended (said v)) c.in-Holds.is))
    c.in_ok-write_all-in-Holds.ensures.bytes c.in_ok-write_all-in-Holds-2.ensures.bytes c.write_all-in-Holds-3.ensures.bytes
