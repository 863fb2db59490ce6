-- `Accepted::overlay` meets its contract: deciphered, laid over, enciphered again.
use Rattle.std.proofs.Common.{◌≡◌, ℕ, ◌+◌, ◌-◌, ◌/◌, List, length, ap, ap₂, ◌∙◌, arith, rules}
use Rattle.spans.specs.Parts.{splice}
use Rattle.spans.proofs.PartsLaws.{mid_splice, splice-length}
use Rattle.block.specs.Block.{enciphered, deciphered}
use Rattle.sealed.specs.Cbc.{cbc, uncbc}
use Rattle.sealed.proofs.OpenLaws.{uncbc-length}
use Rattle.sealed.proofs.Accepted.overlay.Goals as goal

pub returns : goal.returns
returns c =
    let a = c.args in
    let t = a.self.now.t in
    let n : ℕ = length a.blocks.now / 16 in
    let U : List ℕ = uncbc (deciphered t) a.chain n a.blocks.now in
    let chain-long : length a.chain ≡ 16 = search rules in
    let U-long : length U ≡ length a.blocks.now = uncbc-length t n a.chain a.blocks.now chain-long (omega arith) in
    let wide : length a.bytes.now ≡ a.q + length a.bytes.now - a.q = omega arith in
    let laid = mid_splice a.q _ _ _ (ap length c.copy_from_slice.ensures.after ∙ wide) ∙ ap₂ (splice a.q) c.copy_from_slice.ensures.after c.unchain_blocks.ensures in
    let long = ap length laid ∙ splice-length a.q a.bytes.now U (omega (arith, c.requires, U-long)) ∙ U-long in
    c.chain_blocks.ensures ∙ ap₂ (λ (k : ℕ) (l : List ℕ). cbc (enciphered t) a.chain (k / 16) l) long laid
