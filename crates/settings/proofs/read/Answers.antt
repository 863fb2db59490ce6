-- `settings::read` meets its contract: the first refusal in order, or the state after the version's records.
use Rattle.std.proofs.Common.{ℕ, List, sym, ap, arith}
use Rattle.std.proofs.lemmas.Result.{err_from_is_err_and}
use borrow.Author.Tests.{ltb-false}
use Rattle.settings.specs.Answers.{read_number, read_answer}
use Rattle.settings.proofs.RecordLaws.{broken_less}
use Rattle.settings.proofs.AnswerLaws.{takes, refused_reading}
use Rattle.settings.proofs.read.Goals as goal

pub returns-in_err-judge : goal.returns-in_err-judge
unfolding read_number
returns-in_err-judge c =
    let p = err_from_is_err_and c.from_residual.result c.from_residual.ensures.1 in
    rw (p.1, p.2) (refused_reading c.in_err-judge.field-0.0 c.in_err-judge.ensures _)

pub state-requires-clause-long : goal.state-requires-clause-long
state-requires-clause-long c = let k = takes _ _ _ _ c.in_ok-judge.ensures in omega (arith, k.long, k.few, ltb-false _ _ k.inside)

pub state-requires-clause-whole : goal.state-requires-clause-whole
state-requires-clause-whole c =
    let k = takes _ _ _ _ c.in_ok-judge.ensures in broken_less c.args.store.now _ _ (omega (arith, ltb-false _ _ k.inside)) k.whole

pub returns : goal.returns
unfolding read_answer read_number
returns c = rw (sym c.in_ok-judge.ensures) (ap (λ (l : List ℕ). record { number = 0; values = l }) c.state.ensures)
