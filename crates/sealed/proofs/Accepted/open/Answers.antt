-- `Accepted::open` meets its contract: the blocks that hold the bytes are copied, deciphered where they lie, and the bytes taken from them.
use Rattle.std.proofs.Common.{◌≡◌, ℕ, ◌+◌, ◌-◌, ◌*◌, ◌/◌, ◌%◌, ◌≤◌, List, ◌++◌, length, take, drop, replicate, ap, ap₂, ◌∙◌, arith, length-drop}
use lib.Seq.{length-take-le, take_at}
use Rattle.spans.specs.Parts.{splice}
use Rattle.spans.proofs.PartsLaws.{block_whole, front_part}
use Rattle.block.specs.Block.{deciphered}
use Rattle.block.proofs.ThereAndBack.{deciphered-length}
use Rattle.sealed.specs.Cbc.{uncbc}
use Rattle.sealed.specs.Record.{page_of}
use Rattle.sealed.proofs.OpenLaws.{uncbc-length}
use Rattle.sealed.proofs.MiddleLaws.{page_bytes}
use Rattle.sealed.proofs.Accepted.open.Goals as goal

pub returns : goal.returns
returns c =
    let a = c.args in
    let t = a.self.now.t in
    let r = a.blocks.now in
    let n = length a.out.now in
    let i = a.p / 16 in
    let q = a.p % 16 in
    let k = (q + n + 15) / 16 in
    let at : ℕ = 16 + 16 * i in
    let part : List ℕ = take (16 * k) (drop at r) in
    let chain : List ℕ = take 16 (drop (16 * i) r) in
    let U : List ℕ = uncbc (deciphered t) chain k part in
    let span : at + 16 * k - at ≡ 16 * k = omega arith in
    let asked : q + n - q ≡ n = omega arith in
    let place : 16 * i + q ≡ a.p = omega arith in
    let before : at - 16 * i ≡ 16 = omega arith in
    let part-long : length part ≡ 16 * k = length-take-le (16 * k) (drop at r) (omega (arith, c.requires, length-drop at r)) in
    let chain-long : length chain ≡ 16 = length-take-le 16 (drop (16 * i) r) (omega (arith, c.requires, length-drop (16 * i) r)) in
    let U-long : length U ≡ 16 * k = uncbc-length t k chain part chain-long (omega (arith, part-long)) ∙ part-long in
    let blocks : length part / 16 ≡ k = omega (arith, part-long) in
    let copied : c.copy_from_slice.new.self ≡ part = c.copy_from_slice.ensures.after ∙ ap (λ (j : ℕ). take j (drop at r)) span in
    let first : c.block.result ≡ chain =
    c.block.ensures ∙ ap (λ (j : ℕ). splice 0 (take 16 (take j (drop (16 * i) r))) (replicate 16 0)) before ∙ block_whole chain chain-long in
    let opened : c.unchain_blocks.new.blocks ≡ U =
    c.unchain_blocks.ensures
    ∙ ap₂ (λ (b l : List ℕ). uncbc (deciphered t) b (length l / 16) l) first
    (take_at c.copy_from_slice.new.self _ (16 * k) (ap length copied ∙ part-long) ∙ copied)
    ∙ ap (λ (j : ℕ). uncbc (deciphered t) chain j part) blocks in
    let beyond : List ℕ = drop (16 * k) (c.copy_from_slice.new.self ++ drop (16 * k) (replicate 256 0)) in
    let within : q + n ≤ length c.unchain_blocks.new.blocks = omega (arith, ap length opened, U-long) in
    c.copy_from_slice-2.ensures.after
    ∙ ap (λ (j : ℕ). take j (drop q (c.unchain_blocks.new.blocks ++ beyond))) asked
    ∙ front_part n q c.unchain_blocks.new.blocks beyond within
    ∙ ap (λ (u : List ℕ). take n (drop q u)) opened
    ∙ page_bytes (deciphered t) (deciphered-length t) i q k n r c.requires.0 (omega (arith, c.requires.1)) (omega arith)
    ∙ ap (λ (j : ℕ). take n (drop j (page_of (deciphered t) r))) place
