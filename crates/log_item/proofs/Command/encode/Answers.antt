-- `log_item::Command::encode` meets its contract.
-- Assumes nothing.
use Rattle.std.proofs.Common.{arith}
use Rattle.log_item.proofs.Stores.{piece_stored}
use Rattle.log_item.proofs.Lengths.{bytes_told}
use Rattle.log_item.proofs.Command.encode.Goals as goal

pub returns : goal.returns
returns c = piece_stored _ _ _ _ (grind (arith, bytes_told)) c.put_command.ensures
