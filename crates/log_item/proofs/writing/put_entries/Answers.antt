-- `log_item::writing::put_entries` meets its contract.
-- Assumes nothing.
use Rattle.log_item.proofs.Lengths.{entries_room, entries_some}
use Rattle.log_item.proofs.Stores.{stored_same, stored_then}
use Rattle.log_item.proofs.writing.put_entries.Goals as goal

pub put_number-next-requires : goal.put_number-next-requires
put_number-next-requires c = entries_room _ _ c.requires

pub returns : goal.returns
returns c = stored_same (entries_some _ _ c.if-count-eq0.false) (stored_then c.put_number-next.ensures c.put_number.ensures)
