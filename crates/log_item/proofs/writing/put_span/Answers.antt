-- `log_item::writing::put_span` meets its contract.
-- Assumes nothing.
use Rattle.log_item.specs.Bytes.{span_bytes}
use Rattle.log_item.proofs.Stores.{stored_then}
use Rattle.log_item.proofs.writing.put_span.Goals as goal

pub returns : goal.returns
unfolding span_bytes
returns c = stored_then c.put_number-next.ensures c.put_part.ensures
