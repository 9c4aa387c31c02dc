-- `log_item::KeyValue::encode` meets its contract.
-- Assumes nothing.
use Rattle.std.proofs.Common.{arith}
use Rattle.log_item.proofs.Stores.{piece_stored}
use Rattle.log_item.proofs.Lengths.{op_told}
use Rattle.log_item.proofs.KeyValue.encode.Goals as goal

pub returns : goal.returns
returns c = piece_stored _ _ _ _ (grind (arith, op_told)) c.put_op.ensures
