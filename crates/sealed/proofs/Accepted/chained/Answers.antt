-- `Accepted::chained` meets its contract: a block of 16 bytes is xored, enciphered and handed back.
use Rattle.std.proofs.Common.{◌≡◌, length, ap, ◌∙◌, rules}
use Rattle.spans.specs.Bytes.{xor_bytes}
use Rattle.spans.proofs.PartsLaws.{block_whole}
use Rattle.block.specs.Block.{enciphered}
use Rattle.block.proofs.ThereAndBack.{enciphered-length}
use Rattle.sealed.proofs.Blocks.{xored-length, xored_whole, taken_block}
use Rattle.sealed.proofs.Accepted.chained.Goals as goal

pub returns : goal.returns
returns c =
    let a = c.args in
    let wide : length a.chain ≡ 16 = search rules in
    let x = c.xor.ensures ∙ xored_whole a.block.now a.chain c.requires wide in
    let long = ap length x ∙ xored-length a.block.now a.chain c.requires wide in
    let e = c.encipher.ensures.block ∙ taken_block a.self.now.t _ _ a.self.now.start long ∙ ap (enciphered a.self.now.t) x in
    let s = c.block.ensures ∙ block_whole _ (ap length e ∙ enciphered-length a.self.now.t (xor_bytes a.block.now a.chain)) ∙ e in
    record { block = e; chain = s }
