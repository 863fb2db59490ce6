-- `masks::next` meets its contract: a mask that has no bit left is passed over, and else its lowest is the next page's.
use Rattle.std.proofs.Common.{sym, ◌∙◌, rules, arith}
use Rattle.masks.proofs.NextLaws.{rest_some, rest_none, next_of-end}
use Rattle.masks.specs.Masks.{is_set}
use Rattle.masks.proofs.next.Goals as goal

pub returns-then-rest-ne0 : goal.returns-then-rest-ne0
returns-then-rest-ne0 c =
    sym (c.loop-page.invariant ∙ rest_some c.args.masks (λ j. search rules) c.loop-page.page (omega (arith, c.loop-page-test.true)) (omega (arith, c.if-rest-ne0.true)))

pub loop-page-preserved : goal.loop-page-preserved
loop-page-preserved c =
    c.loop-page.invariant ∙ rest_none c.args.masks (λ j. search rules) c.loop-page.page (omega (arith, c.loop-page-test.true)) c.if-rest-ne0.false

pub returns : goal.returns
returns c = sym (c.loop-page.invariant ∙ next_of-end (is_set c.args.masks) c.loop-page.page (omega (arith, c.loop-page-test.false)))
