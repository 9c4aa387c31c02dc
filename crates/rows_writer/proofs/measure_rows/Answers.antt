-- `rows_writer::measure_rows` meets its contract.
-- Assumes nothing.
use mathlib.Core.Path.{◌∙◌}
use Rattle.rows_writer.proofs.RowItems.{rows_measured}
use Rattle.rows_writer.proofs.measure_rows.Goals as goal

pub returns : goal.returns
returns c = c.measure_list.ensures ∙ rows_measured _ _ _ _ c.as_chunks.ensures.front c.as_chunks-2.ensures.front
