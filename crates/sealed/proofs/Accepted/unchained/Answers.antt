-- `Accepted::unchained` meets its contract: a block of 16 bytes is deciphered and xored, and handed back as it was.
use Rattle.std.proofs.Common.{◌≡◌, length, ap, ◌∙◌, rules}
use Rattle.spans.specs.Bytes.{xor_bytes}
use Rattle.spans.specs.Parts.{splice}
use Rattle.spans.proofs.PartsLaws.{block_whole}
use Rattle.block.specs.Block.{deciphered}
use Rattle.block.proofs.ThereAndBack.{deciphered-length}
use Rattle.sealed.proofs.Blocks.{xored_whole, taken_block}
use Rattle.sealed.proofs.Accepted.unchained.Goals as goal

pub returns : goal.returns
returns c =
    let a = c.args in
    let t = a.self.now.t in
    let wide : length a.chain ≡ 16 = search rules in
    let d = c.decipher.ensures.block ∙ taken_block t _ _ a.self.now.start c.requires in
    let x = c.xor.ensures ∙ ap (λ l. splice 0 (xor_bytes l a.chain) l) d ∙ xored_whole (deciphered t a.block.now) a.chain (deciphered-length t a.block.now) wide in
    record { block = x; chain = c.block-next.ensures ∙ block_whole _ c.requires }
