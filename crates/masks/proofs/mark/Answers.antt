-- `masks::mark` meets its contract: the bit of a page is set in its mask.
use Rattle.std.proofs.Common.{arith, rules}
use Rattle.masks.proofs.Marking.{written-marked, unmarked}
use Rattle.masks.proofs.mark.Goals as goal

pub returns-then-page-lt-PAGES : goal.returns-then-page-lt-PAGES
returns-then-page-lt-PAGES c = written-marked c.args.masks.now record { four = search rules; small = λ j. search rules } c.args.page (omega (arith, c.if-page-lt-PAGES.true))

pub returns-else-page-lt-PAGES : goal.returns-else-page-lt-PAGES
returns-else-page-lt-PAGES c = unmarked c.args.masks.now c.args.page (omega (arith, c.if-page-lt-PAGES.false))
