-- `list_writer::encode` meets its contract.
-- Assumes nothing.
use native.Mathlib.Omega.{arith}
use Rattle.list_writer.proofs.Tables.{table_refused, table_written}
use Rattle.list_writer.proofs.encode.Goals as goal

pub returns-then-item_count-gt256 : goal.returns-then-item_count-gt256
returns-then-item_count-gt256 c = rw c.from.ensures (table_refused _ _ _ _ _ _ _ _ _ c.if-item_count-gt256.true)

pub returns : goal.returns
returns c = table_written _ _ _ _ _ _ c.if-item_count-gt256.false (omega arith) (omega arith) _ c.min.ensures c.encode_list.ensures
