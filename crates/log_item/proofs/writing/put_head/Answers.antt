-- `log_item::writing::put_head` meets its contract.
-- Assumes nothing.
use Rattle.log_item.specs.Bytes.{head_bytes}
use Rattle.log_item.proofs.Stores.{stored_then}
use Rattle.log_item.proofs.writing.put_head.Goals as goal

pub returns : goal.returns
unfolding head_bytes
returns c = stored_then c.put_number-next.ensures c.put_content.ensures
