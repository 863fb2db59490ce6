-- `listing::fill` meets its contract: each read goes on where the last one ended.
use Rattle.std.proofs.Common.{sym, subst, rules}
use Rattle.std.specs.Io.KnownBytes.{Consumes}
use Rattle.std.proofs.KnownBytes.{Consumes-trans}
use Rattle.listing.proofs.StreamLaws.{take-put_mid-more}
use Rattle.listing.proofs.fill.Goals as goal

pub loop-filled-preserved : goal.loop-filled-preserved
loop-filled-preserved g c =
    let l = c.loop-filled in
    record {
      within = search rules;
      taken =
          subst (Consumes _ _) (sym (take-put_mid-more l.filled _ c.in_ok-n.n l.buf c.read.new.buf l.invariant.within c.in_ok-n.ensures.bound.0))
          (Consumes-trans _ _ _ _ _ l.invariant.taken c.in_ok-n.ensures.bytes.0);
    }
