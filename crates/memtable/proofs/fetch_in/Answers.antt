-- The run that is fetched is the one that the scan finds.
-- Assumes nothing.
use mathlib.Core.Path.{sym, ◌∙◌}
use Rattle.memtable.proofs.Surveys.{fetched_by, not_fetched}
use Rattle.memtable.proofs.fetch_in.Goals as goal

pub returns-then-not-is_well_formed : goal.returns-then-not-is_well_formed
returns-then-not-is_well_formed g c = not_fetched _ _ _ _ (sym c.is_well_formed.ensures ∙ c.if-not-is_well_formed.true)

pub returns : goal.returns
returns g c = c.run_from.ensures ∙ fetched_by _ _ _ _ _ _ _ _ (sym c.if-not-is_well_formed.false ∙ c.is_well_formed.ensures) c.count-n.ensures c.min-start.ensures c.scan-end.ensures
