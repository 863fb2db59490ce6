-- `Accepted::unchain_blocks` meets its contract: a turn unchains a block.
use Rattle.std.proofs.Common.{◌≡◌, ℕ, ◌+◌, ◌-◌, ◌*◌, ◌/◌, ◌≤◌, List, ◌++◌, length, take, drop, refl, ap, ◌∙◌, arith, rules}
use Rattle.std.proofs.Math.Nat.{sub-zero}
use Rattle.spans.specs.Bytes.{xor_bytes}
use Rattle.spans.proofs.PartsLaws.{mid_splice}
use Rattle.block.specs.Block.{deciphered}
use Rattle.block.proofs.ThereAndBack.{deciphered-length}
use Rattle.sealed.specs.Cbc.{uncbc}
use Rattle.sealed.proofs.Blocks.{xored-length}
use Rattle.sealed.proofs.ChainLaws.{through_more, through_done}
use Rattle.sealed.proofs.Accepted.unchain_blocks.Goals as goal

pub loop-i-init : goal.loop-i-init
loop-i-init c =
    (search rules, ap (λ (n : ℕ). uncbc (deciphered c.args.self.now.t) c.args.chain n c.args.blocks.now) (sub-zero (length c.args.blocks.now / 16)))

pub loop-i-preserved : goal.loop-i-preserved
unfolding uncbc
loop-i-preserved c =
    let l = c.loop-i in
    let D = deciphered c.args.self.now.t in
    let n = length c.args.blocks.now / 16 in
    let out : List ℕ → List ℕ → List ℕ = λ p b. xor_bytes (D p) b in
    let next : List ℕ → List ℕ → List ℕ = λ p b. p in
    let wide : 16 * l.i + 16 - 16 * l.i ≡ 16 = omega arith in
    let last = l.invariant.0 in
    let made = c.unchained-next.ensures.block ∙ ap (λ (k : ℕ). out (take k (drop (16 * l.i) l.blocks)) l.previous) wide in
    let long = ap length made ∙ xored-length _ l.previous (deciphered-length c.args.self.now.t _) last in
    let room : 16 * l.i + 16 ≤ length l.blocks = omega (arith, l.auto.blocks) in (
      search rules,
      ap (λ (b : List ℕ). take (16 * (l.i + 1)) b ++ uncbc D c.unchained-next.result (n - (l.i + 1)) (drop (16 * (l.i + 1)) b))
          (mid_splice (16 * l.i) _ _ l.blocks (long ∙ omega arith))
          ∙ through_more (uncbc D) out next (λ b m. refl) (λ b m k. refl) l.blocks _ l.previous _ _ n l.i (omega arith) room long made
          (c.unchained-next.ensures.chain ∙ ap (λ (k : ℕ). take k (drop (16 * l.i) l.blocks)) wide) l.invariant.1,
    )

pub returns : goal.returns
unfolding uncbc
returns c =
    let D = deciphered c.args.self.now.t in
    let out : List ℕ → List ℕ → List ℕ = λ p b. xor_bytes (D p) b in
    let next : List ℕ → List ℕ → List ℕ = λ p b. p in
    through_done (uncbc D) out next (λ b m. refl) (λ b m k. refl) c.loop-i.blocks c.loop-i.previous _ (length c.args.blocks.now / 16) c.loop-i.i (omega arith) c.loop-i.invariant.1
