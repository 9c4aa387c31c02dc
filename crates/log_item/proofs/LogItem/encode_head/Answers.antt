-- `log_item::LogItem::encode_head` meets its contract.
-- Assumes nothing.
use Rattle.std.proofs.Common.{arith}
use Rattle.log_item.proofs.Stores.{piece_stored}
use Rattle.log_item.proofs.Lengths.{head_told}
use Rattle.log_item.proofs.LogItem.encode_head.Goals as goal

pub returns : goal.returns
returns c = piece_stored _ _ _ _ (grind (arith, head_told)) c.put_head.ensures
