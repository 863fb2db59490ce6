-- `spans::copy` meets its contract: as many bytes as both have are all the bytes of src that dst has room for.
use Rattle.std.proofs.Common.{ℕ, List, length, take, ap, ◌∙◌, arith}
use Rattle.std.proofs.lemmas.List.{take_min, length-take}
use Rattle.spans.specs.Parts.{splice}
use Rattle.spans.proofs.PartsLaws.{mid_splice}
use Rattle.spans.proofs.copy.Goals as goal

pub returns : goal.returns
returns c =
    let d = c.args.dst.now in
    let s = c.args.src.now in
    let n = c.least-n.result in
    mid_splice 0 n c.copy_from_slice.new.self d (omega (arith, c.copy_from_slice.ensures.len, length-take n d))
    ∙ ap (λ (w : List ℕ). splice 0 w d)
    (c.copy_from_slice.ensures.after ∙ ap (λ (k : ℕ). take k s) c.least-n.ensures ∙ take_min (length d) s)
