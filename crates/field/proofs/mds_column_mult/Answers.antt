-- `field::mds_column_mult` meets its contract: the four columns as the code writes them out, and none past the fourth.
use Rattle.std.proofs.Common.{◌≡◌, ℕ, ◌<◌, List, [], ◌∷◌, get_or, sym, ap, ◌∙◌, arith, rules}
use lib.Dec.{lit<}
use Rattle.words.specs.Word.{word_of}
use Rattle.field.specs.Field.{mul}
use Rattle.field.specs.Matrix.{mds_poly, mds_column}
use Rattle.field.proofs.Rows.{written, written_column, no_column}
use Rattle.field.proofs.mds_column_mult.Goals as goal

-- column n, where the code asks for it by the number k and makes the word w of it
column :
    {x a b k w : ℕ} (n : ℕ) → n < 4 → x < 256 → a ≡ mul mds_poly x 0x5b → b ≡ mul mds_poly x 0xef → k ≡ n
    → w ≡ word_of (written n x a b) → w ≡ mds_column k x
column {x} {a} {b} n few byte ea eb is e = e ∙ written_column x a b byte ea eb n few ∙ ap (λ (j : ℕ). mds_column j x) (sym is)

-- the two products that the code takes from a pair
first : {p : List ℕ} {a b : ℕ} → p ≡ a ∷ b ∷ [] → get_or p 0 0 ≡ a
first e = ap (λ (l : List ℕ). get_or l 0 0) e

second : {p : List ℕ} {a b : ℕ} → p ≡ a ∷ b ∷ [] → get_or p 1 0 ≡ b
second e = ap (λ (l : List ℕ). get_or l 1 0) e

pub returns-in-0 : goal.returns-in-0
unfolding written
returns-in-0 c = column 0 (lit< tt) (search rules) (first c.by_5b_and_ef.ensures) (second c.by_5b_and_ef.ensures) c.in-0.is c.from_le_bytes.ensures

pub returns-in-1 : goal.returns-in-1
unfolding written
returns-in-1 c = column 1 (lit< tt) (search rules) (first c.by_5b_and_ef.ensures) (second c.by_5b_and_ef.ensures) c.in-1.is c.from_le_bytes-in-1.ensures

pub returns-in-2 : goal.returns-in-2
unfolding written
returns-in-2 c = column 2 (lit< tt) (search rules) (first c.by_5b_and_ef.ensures) (second c.by_5b_and_ef.ensures) c.in-2.is c.from_le_bytes-in-2.ensures

pub returns-in-3 : goal.returns-in-3
unfolding written
returns-in-3 c = column 3 (lit< tt) (search rules) (first c.by_5b_and_ef.ensures) (second c.by_5b_and_ef.ensures) c.in-3.is c.from_le_bytes-in-3.ensures

pub returns-in_default : goal.returns-in_default
returns-in_default c = sym (no_column c.args.x c.args.column (search rules) (omega arith))
