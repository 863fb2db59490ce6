-- `listing::list` meets its contract: what was read first is the opening, and what comes after it the image.
use Rattle.std.proofs.Common.{◌≡◌, ℕ, List, subst, take, drop}
use Rattle.std.proofs.lemmas.Result.{on_ok_weaker}
use Rattle.std.specs.Io.KnownBytes.{Appends}
use Rattle.listing.specs.Slot.{opening_length}
use Rattle.listing.specs.Listing.{listed}
use Rattle.listing.proofs.StreamLaws.{known-map, known-both, Takes-first, Takes-drops, Drops-known}
use Rattle.listing.proofs.ListingLaws.{listing-none, listing-some}
use Rattle.listing.proofs.list.Goals as goal

pub returns-in-None : goal.returns-in-None
returns-in-None g c =
    let input = g.R.Read.remaining c.args.input.now in
    let bytes = take c.in_ok-n.n c.fill.new.buf in
    on_ok_weaker c.writeln.result
    (λ p.
    known-map (λ all. bytes ≡ take opening_length all) _ input (λ all e. subst (Appends _ _) (listing-none all bytes e c.in-None.ensures.says) p)
    (Takes-first input (g.R.Read.remaining c.fill.new.input) opening_length bytes c.in_ok-n.ensures.bytes))
    c.writeln.ensures.bytes

pub returns-in-Some : goal.returns-in-Some
returns-in-Some g c =
    let input = g.R.Read.remaining c.args.input.now in
    let rest = g.R.Read.remaining c.fill.new.input in
    let before = g.W.Write.contents c.args.output.now in
    let after = g.W.Write.contents c.list_image.new.output in
    let bytes = take c.in_ok-n.n c.fill.new.buf in
    let o = c.in-Some.opening in
    let Listed : List ℕ → Type 0 = λ image. Appends before after (listed o image) in
    on_ok_weaker c.list_image.result
    (λ p.
    known-both (λ all. bytes ≡ take opening_length all) (λ all. Listed (drop opening_length all)) _ input
    (λ all e q. subst (Appends before after) (listing-some o all bytes e c.in-Some.ensures.says) q)
    (Takes-first input rest opening_length bytes c.in_ok-n.ensures.bytes)
    (Drops-known Listed input rest opening_length (Takes-drops input rest opening_length bytes c.in_ok-n.ensures.bytes) p))
    c.list_image.ensures
