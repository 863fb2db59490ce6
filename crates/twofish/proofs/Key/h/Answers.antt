-- `Key::h` meets its contract: a turn takes a word in; then the last permutations and MDS.
use Rattle.std.proofs.Common.{◌≡◌, ℕ, suc, ◌+◌, ◌-◌, ◌*◌, ◌<◌, ◌≤◌, List, length, ap, ◌∙◌, arith}
use Rattle.words.specs.Word.{word_of, bytes_of}
use Rattle.spans.specs.Bytes.{xor_bytes}
use Rattle.field.specs.Matrix.{mds_times}
use Rattle.twofish.specs.Lists.{listed, word_at}
use Rattle.twofish.specs.H.{through, y, h}
use Rattle.twofish.specs.Half.{first_of}
use Rattle.twofish.specs.Schedule.{every_other, units}
use Rattle.twofish.proofs.ListLaws.{listed-length}
use Rattle.twofish.proofs.HLaws.{y_taken}
use Rattle.twofish.proofs.Key.h.Goals as goal

module _ (f : ℕ → ℕ) (k X : ℕ) where
  -- above every word stand the bytes of X
  first : (v : List ℕ) (i : ℕ) → i ≡ k → v ≡ bytes_of X → v ≡ y (listed f k) X i (k - i)
  unfolding y
  first v i ei e = let none : k - i ≡ 0 = omega arith in e ∙ rw none

  more : (v r : List ℕ) (i : ℕ) → 0 < i → i ≤ k → v ≡ y (listed f k) X i (k - i) → r ≡ xor_bytes (through (3 - (i - 1)) v) (bytes_of (f (i - 1)))
      → r ≡ y (listed f k) X (i - 1) (k - (i - 1))
  more v r i lo hi e er =
      let at : i ≡ suc (i - 1) = omega arith in
      er ∙ y_taken f k X (i - 1) v (omega arith) (e ∙ ap (λ (n : ℕ). y (listed f k) X n (k - n)) at)

  last : (v p : List ℕ) (r : ℕ) → v ≡ y (listed f k) X 0 (k - 0) → p ≡ through 4 v → r ≡ word_of (mds_times p) → r ≡ h X (listed f k)
  unfolding h
  last v p r e ep er =
      let all : k - 0 ≡ length (listed f k) = omega (arith, listed-length f k) in
      er ∙ ap (λ (u : List ℕ). word_of (mds_times u)) (ep ∙ ap (through 4) (e ∙ ap (y (listed f k) X 0) all))

pub loop-i-init : goal.loop-i-init
loop-i-init c =
    let m = c.args.self.now.m.now in
    first (λ i. word_at m (2 * i + first_of c.args.half)) (units m) c.args.x _ _ c.units-i.ensures c.to_le_bytes-y.ensures

pub loop-i-preserved : goal.loop-i-preserved
loop-i-preserved c =
    let m = c.args.self.now.m.now in
    more (λ i. word_at m (2 * i + first_of c.args.half)) (units m) c.args.x _ _ c.loop-i.i (omega arith) (omega (arith, c.units-i.ensures))
    c.loop-i.invariant c.step-next.ensures

pub returns : goal.returns
unfolding every_other
returns c =
    let m = c.args.self.now.m.now in
    let f : ℕ → ℕ = λ i. word_at m (2 * i + first_of c.args.half) in
    let none : c.loop-i.i ≡ 0 = omega arith in
    last f (units m) c.args.x _ _ _ (c.loop-i.invariant ∙ ap (λ (n : ℕ). y (listed f (units m)) c.args.x n (units m - n)) none)
    c.through.ensures c.mds_mult.ensures
