-- `line::part` meets its contract.
-- Assumes nothing.
use Rattle.line.proofs.Places.{part_none, part_some}
use Rattle.line.proofs.part.Goals as goal

pub returns-then-to-start : goal.returns-then-to-start
returns-then-to-start c = let a = c.args in part_none a.text a.start a.end c.least-to.result c.least-to.ensures c.if-to-start.true

pub returns : goal.returns
returns c = let a = c.args in part_some a.text a.start a.end c.least-to.result c.least-to.ensures c.if-to-start.false
