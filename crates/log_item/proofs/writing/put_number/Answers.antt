-- `log_item::writing::put_number` meets its contract.
-- Assumes nothing.
use Rattle.log_item.proofs.Stores.{stored_at}
use Rattle.log_item.proofs.writing.put_number.Goals as goal

pub returns : goal.returns
returns c = stored_at c.requires c.put_var_u64.ensures
