-- `block::turn_block` meets its contract: refusal 2, refusal 3, else the block turned.
use Rattle.std.proofs.Common.{ap, ◌∙◌}
use Rattle.std.proofs.lemmas.Result.{err_from_is_err_and}
use Rattle.block.specs.Block.{block_of}
use Rattle.block.proofs.NumberLaws.{start_taken, start_refused, length_refused, accepted}
use Rattle.block.proofs.turn_block.Goals as goal

pub returns-in_err-cipher : goal.returns-in_err-cipher
returns-in_err-cipher g c =
    let e = c.in_err-cipher.ensures in
    let p = err_from_is_err_and c.from_residual.result c.from_residual.ensures.1 in
    let given = start_refused c.args.t c.args.block.now _ e.0 in
    record { outcome = rw (p.1, p.2, e.1) given.0; block = given.1 }

pub returns-in_err-w : goal.returns-in_err-w
returns-in_err-w g c =
    let e = c.in_err-w.ensures in
    let p = err_from_is_err_and c.from_residual-in_err-w.result c.from_residual-in_err-w.ensures.1 in
    let taken = start_taken _ c.args.t c.in_ok-cipher.ensures c.in_ok-cipher.cipher.accepted in
    let given = length_refused c.args.t c.args.block.now _ taken e.0 in
    record { outcome = rw (p.1, p.2, e.1) given.0; block = given.1 }

pub returns : goal.returns
returns g c =
    let e = c.in_ok-w.ensures in
    let taken = start_taken _ c.args.t c.in_ok-cipher.ensures c.in_ok-cipher.cipher.accepted in
    let given =
    accepted c.args.t c.args.block.now _ _ taken e.0
    (c.copy_from_slice.ensures.after ∙ c.from.ensures ∙ ap block_of c.turn.ensures ∙ rw (c.in_ok-cipher.ensures, e.1)) in
    record { outcome = given.0; block = given.1 }
