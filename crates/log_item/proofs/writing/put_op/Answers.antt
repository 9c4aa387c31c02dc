-- `log_item::writing::put_op` meets its contract.
-- Assumes nothing.
use Rattle.log_item.specs.Bytes.{op_bytes}
use Rattle.log_item.proofs.Stores.{stored_then}
use Rattle.log_item.proofs.writing.put_op.Goals as goal

pub returns-in-Put : goal.returns-in-Put
unfolding op_bytes
returns-in-Put c = rw c.in-Put.is (stored_then c.put_byte-next.ensures (stored_then c.put_span-middle.ensures c.put_span.ensures))
