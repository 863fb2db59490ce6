-- `Accepted::patch_record` meets its contract: the blocks from the first written one on are copied, worked through and written back.
use Rattle.std.proofs.Common.{◌≡◌, ℕ, ◌+◌, ◌-◌, ◌*◌, ◌/◌, ◌%◌, List, ◌++◌, length, take, drop, replicate, ap, ap₂, ◌∙◌, arith, rules, length-drop}
use lib.Seq.{length-take-le, take_all}
use Rattle.spans.specs.Parts.{splice}
use Rattle.spans.proofs.BytesLaws.{AllBytes}
use Rattle.spans.proofs.PartsLaws.{block_whole, mid_splice, splice_end}
use Rattle.block.specs.Block.{enciphered, deciphered}
use Rattle.block.proofs.Bytes16.{deciphered-bytes}
use Rattle.block.proofs.Undone.{redone}
use Rattle.sealed.specs.Cbc.{cbc, uncbc}
use Rattle.sealed.proofs.PatchLaws.{overlaid}
use Rattle.sealed.proofs.Accepted.patch_record.Goals as goal

pub returns : goal.returns
returns c =
    let a = c.args in
    let t = a.self.now.t in
    let r = a.blocks.now in
    let i = a.p / 16 in
    let q = a.p % 16 in
    let at : ℕ = 16 + 16 * i in
    let m : ℕ = 16 - i in
    let E = enciphered t in
    let D = deciphered t in
    let chain : List ℕ = take 16 (drop (16 * i) r) in
    let rest : List ℕ = drop at r in
    let made : List ℕ = cbc E chain m (splice q a.bytes.now (uncbc D chain m rest)) in
    let long = c.requires.1 in
    let rest-long : length rest ≡ 16 * m = length-drop at r ∙ omega (arith, long, c.requires.2, c.requires.3) in
    let chain-long : length chain ≡ 16 = length-take-le 16 (drop (16 * i) r) (omega (arith, long, length-drop (16 * i) r, c.requires.2, c.requires.3)) in
    let before : at - 16 * i ≡ 16 = omega arith in
    let first : c.block-chain.result ≡ chain =
    c.block-chain.ensures ∙ ap (λ (j : ℕ). splice 0 (take 16 (take j (drop (16 * i) r))) (replicate 16 0)) before ∙ block_whole chain chain-long in
    let all : take (length r - at) rest ≡ rest = take_all (length r - at) rest (omega (arith, long, rest-long)) in
    let copied : c.copy_from_slice.new.self ≡ rest = c.copy_from_slice.ensures.after ∙ all in
    let blocks : length rest / 16 ≡ m = omega (arith, rest-long) in
    let worked : c.overlay.new.blocks ≡ made =
    c.overlay.ensures
    ∙ ap₂ (λ (b l : List ℕ). cbc E b (length l / 16) (splice q a.bytes.now (uncbc D b (length l / 16) l))) first copied
    ∙ ap (λ (k : ℕ). cbc E chain k (splice q a.bytes.now (uncbc D chain k rest))) blocks in
    let written : c.copy_from_slice-2.new.self ≡ made = c.copy_from_slice-2.ensures.after ∙ worked in
    let new-long : length c.copy_from_slice-2.new.self ≡ length r - at = c.copy_from_slice-2.ensures.len ∙ ap length all ∙ omega (arith, long, rest-long) in
    let whole : at + length c.copy_from_slice-2.new.self ≡ length r = omega (arith, new-long, long, c.requires.2, c.requires.3) in
    let byte : AllBytes r = λ j. search rules in
    let place : 16 + (16 * i + q) ≡ 16 + a.p = omega arith in
    mid_splice at _ _ r new-long
    ∙ splice_end at _ r whole
    ∙ ap (λ (l : List ℕ). take at r ++ l) written
    ∙ overlaid E D (deciphered-bytes t) (λ l k. redone t l c.requires.0 k) i q a.bytes.now r long byte (omega (arith, c.requires.2, c.requires.3))
    ∙ ap (λ (k : ℕ). cbc E (replicate 16 0) 17 (splice k a.bytes.now (uncbc D (replicate 16 0) 17 r))) place
