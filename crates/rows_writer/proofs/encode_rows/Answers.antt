-- `rows_writer::encode_rows` meets its contract.
-- Assumes nothing.
use Rattle.rows_writer.proofs.RowItems.{rows_written}
use Rattle.rows_writer.proofs.encode_rows.Goals as goal

pub returns : goal.returns
returns c = rows_written _ _ _ _ c.as_chunks.ensures.front c.as_chunks-2.ensures.front _ c.encode_list.ensures
