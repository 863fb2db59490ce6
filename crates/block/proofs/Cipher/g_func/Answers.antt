-- `Cipher::g_func` meets its contract: a turn adds a column of MDS.
use Rattle.std.proofs.Common.{◌≡◌, ℕ, ◌-◌, length, refl, sym, ap, ◌∙◌, arith}
use Rattle.words.specs.Word.{word_of}
use Rattle.field.specs.Matrix.{mds_poly, mds, mds_times, times, row_times, mds_column}
use Rattle.field.proofs.Rows.{columns_more}
use Rattle.twofish.specs.Lists.{word_at}
use Rattle.twofish.specs.H.{through, y, h}
use Rattle.twofish.proofs.ListLaws.{listed-length}
use Rattle.block.specs.Block.{s_list, s_words, g}
use Rattle.block.proofs.Columns.{through_at}
use Rattle.block.proofs.Cipher.g_func.Goals as goal

pub loop-j-init : goal.loop-j-init
unfolding word_of times row_times
loop-j-init c = refl

pub loop-j-preserved : goal.loop-j-preserved
loop-j-preserved c =
    let a = c.args in
    let j = c.loop-j.j in
    let v = y (s_list a.self.now.t.s a.self.now.t.start) a.x 0 (s_words a.self.now.t.start) in
    columns_more (through 4 v) j c.loop-j.result _ (omega arith) c.loop-j.invariant
    (c.mds_column_mult-result.ensures ∙ ap (mds_column j) (c.g_column.ensures ∙ sym (through_at 4 v j (omega arith))))

pub returns : goal.returns
unfolding g h s_list
returns c =
    let a = c.args in
    let L = s_list a.self.now.t.s a.self.now.t.start in
    let all : s_words a.self.now.t.start ≡ length L = sym (listed-length (λ i. word_at a.self.now.t.s (s_words a.self.now.t.start - 1 - i)) (s_words a.self.now.t.start)) in
    let four : c.loop-j.j ≡ 4 = omega arith in
    c.loop-j.invariant ∙ ap (λ (n : ℕ). word_of (times mds_poly mds n (through 4 (y L a.x 0 (s_words a.self.now.t.start))))) four
    ∙ ap (λ (n : ℕ). word_of (mds_times (through 4 (y L a.x 0 n)))) all
