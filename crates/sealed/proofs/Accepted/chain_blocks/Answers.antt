-- `Accepted::chain_blocks` meets its contract: a turn chains a block.
use Rattle.std.proofs.Common.{◌≡◌, ℕ, ◌+◌, ◌-◌, ◌*◌, ◌/◌, ◌≤◌, List, ◌++◌, length, take, drop, refl, ap, ◌∙◌, arith}
use Rattle.std.proofs.Math.Nat.{sub-zero}
use Rattle.spans.specs.Bytes.{xor_bytes}
use Rattle.spans.proofs.PartsLaws.{mid_splice}
use Rattle.block.specs.Block.{enciphered}
use Rattle.block.proofs.ThereAndBack.{enciphered-length}
use Rattle.sealed.specs.Cbc.{cbc}
use Rattle.sealed.proofs.ChainLaws.{through_more, through_done}
use Rattle.sealed.proofs.Accepted.chain_blocks.Goals as goal

pub loop-i-init : goal.loop-i-init
loop-i-init c =
    ap (λ (n : ℕ). cbc (enciphered c.args.self.now.t) c.args.chain n c.args.blocks.now) (sub-zero (length c.args.blocks.now / 16))

pub loop-i-preserved : goal.loop-i-preserved
unfolding cbc
loop-i-preserved c =
    let l = c.loop-i in
    let E = enciphered c.args.self.now.t in
    let n = length c.args.blocks.now / 16 in
    let out : List ℕ → List ℕ → List ℕ = λ p b. E (xor_bytes p b) in
    let wide : 16 * l.i + 16 - 16 * l.i ≡ 16 = omega arith in
    let part = ap (λ (k : ℕ). out (take k (drop (16 * l.i) l.blocks)) l.last) wide in
    let made = c.chained-next.ensures.block ∙ part in
    let long = ap length made ∙ enciphered-length c.args.self.now.t _ in
    let room : 16 * l.i + 16 ≤ length l.blocks = omega (arith, l.auto.blocks) in
    ap (λ (b : List ℕ). take (16 * (l.i + 1)) b ++ cbc E c.chained-next.result (n - (l.i + 1)) (drop (16 * (l.i + 1)) b))
    (mid_splice (16 * l.i) _ _ l.blocks (long ∙ omega arith))
    ∙ through_more (cbc E) out out (λ b m. refl) (λ b m k. refl) l.blocks _ l.last _ _ n l.i (omega arith) room long made
    (c.chained-next.ensures.chain ∙ part) l.invariant

pub returns : goal.returns
unfolding cbc
returns c =
    let E = enciphered c.args.self.now.t in
    let out : List ℕ → List ℕ → List ℕ = λ p b. E (xor_bytes p b) in
    through_done (cbc E) out out (λ b m. refl) (λ b m k. refl) c.loop-i.blocks c.loop-i.last _ (length c.args.blocks.now / 16) c.loop-i.i (omega arith) c.loop-i.invariant
