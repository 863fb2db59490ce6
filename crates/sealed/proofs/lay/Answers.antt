-- `sealed::lay` meets its contract: the place block, the plain bytes after it, and the fill byte after them.
use Rattle.std.proofs.Common.{◌≡◌, ℕ, ◌+◌, ◌-◌, ◌≤◌, List, ◌++◌, length, take, drop, replicate, ap, ap₂, ◌∙◌, arith, length-drop}
use lib.Seq.{length-take-le}
use Rattle.std.proofs.Math.ListN.{length-replicate}
use borrow.Rule.Slice.PartMut.{put_mid}
use Rattle.spans.specs.Parts.{splice}
use Rattle.spans.proofs.PartsLaws.{mid_splice, splice-length}
use Rattle.sealed.specs.Record.{place_block, fill_byte, filled}
use Rattle.sealed.proofs.RecordLaws.{place_block-length, laid}
use Rattle.sealed.proofs.lay.Goals as goal

-- three parts written one after the other
three :
    (b p : ℕ) (plain l one two rest : List ℕ) → length plain ≤ 256 → length l ≡ 272 → one ≡ place_block b p → two ≡ plain
    → let l₁ : List ℕ = put_mid 0 16 l one in
    let n : ℕ = 16 + length plain in
    let l₂ : List ℕ = put_mid 16 (n - 16) l₁ two in
    rest ≡ replicate (length (take (length l₂ - n) (drop n l₂))) fill_byte → put_mid n (length l₂ - n) l₂ rest ≡ place_block b p ++ filled plain
three b p plain l one two rest h long e₁ e₂ e₃ =
    let P : List ℕ = place_block b p in
    let n : ℕ = 16 + length plain in
    let P-long = place_block-length b p in
    let p₁ : put_mid 0 16 l one ≡ splice 0 P l = mid_splice 0 16 one l (ap length e₁ ∙ P-long) ∙ ap (λ (v : List ℕ). splice 0 v l) e₁ in
    let wide : length plain ≡ n - 16 = omega arith in
    let p₂ : put_mid 16 (n - 16) (put_mid 0 16 l one) two ≡ splice 16 plain (splice 0 P l) =
    mid_splice 16 (n - 16) two (put_mid 0 16 l one) (ap length e₂ ∙ wide) ∙ ap₂ (splice 16) e₂ p₁ in
    let l₂ : List ℕ = put_mid 16 (n - 16) (put_mid 0 16 l one) two in
    let long₁ = splice-length 0 P l (omega (arith, P-long, long)) in
    let long₂ : length l₂ ≡ 272 = ap length p₂ ∙ splice-length 16 plain (splice 0 P l) (omega (arith, long₁, long, h)) ∙ long₁ ∙ long in
    let room : length (take (length l₂ - n) (drop n l₂)) ≡ length l₂ - n = length-take-le (length l₂ - n) (drop n l₂) (omega (arith, length-drop n l₂)) in
    let left : length (take (length l₂ - n) (drop n l₂)) ≡ 256 - length plain = room ∙ omega (arith, long₂, h) in
    let made : rest ≡ replicate (256 - length plain) fill_byte = e₃ ∙ ap (λ (k : ℕ). replicate k fill_byte) left in
    mid_splice n (length l₂ - n) rest l₂ (ap length e₃ ∙ length-replicate _ fill_byte ∙ room)
    ∙ ap₂ (splice n) made p₂ ∙ laid b p plain l h long

pub returns : goal.returns
returns c =
    let a = c.args in
    three a.bank a.page a.plain.now a.blocks.now _ _ _ c.requires.1 c.requires.0 (c.copy_from_slice.ensures.after ∙ c.place_block.ensures)
    c.copy_from_slice-2.ensures.after c.fill.ensures
