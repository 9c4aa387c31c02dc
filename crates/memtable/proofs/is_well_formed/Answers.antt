-- The two scans find where a row of the wrong queue stands, which is all that the decision asks.
-- Assumes nothing.
use mathlib.Core.Path.{sym, ◌∙◌}
use native.Mathlib.Omega.{arith}
use Rattle.memtable.proofs.Surveys.{formed_by, not_formed}
use Rattle.memtable.proofs.is_well_formed.Goals as goal

pub returns-then-n-table : goal.returns-then-n-table
returns-then-n-table g c = not_formed _ _ _ (omega (arith, c.count-n.ensures, c.if-n-table.true))

pub returns : goal.returns
returns g c = rw (sym c.is_whole.ensures ∙ c.if-not-is_whole.false) (c.is_formed.ensures ∙ formed_by _ _ _ _ _ _ c.count-n.ensures (omega (arith, c.if-n-table.false)) c.scan-front.ensures c.scan-back.ensures)
