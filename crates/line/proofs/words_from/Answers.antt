-- `line::words_from` meets its contract.
-- Assumes nothing.
use Rattle.line.proofs.Places.{none_left, nothing_left}
use Rattle.line.proofs.words_from.Goals as goal

pub returns-then-line-at : goal.returns-then-line-at
returns-then-line-at c = nothing_left c.args.line c.args.k (none_left c.loop.invariant c.loop-test.true c.find-at.ensures c.if-line-at.true)
