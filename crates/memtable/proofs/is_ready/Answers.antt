-- The scan finds where the first row that is not in the rewrite queue stands.
-- Assumes nothing.
use mathlib.Core.Path.{sym, ◌∙◌}
use Rattle.memtable.proofs.Surveys.{ready_by_run}
use Rattle.memtable.proofs.is_ready.Goals as goal

pub returns : goal.returns
returns g c = rw (sym c.is_whole.ensures ∙ c.if-not-is_whole.false) (c.is_ready.ensures ∙ ready_by_run _ _ _ _ c.count-n.ensures c.scan-wrong.ensures)
