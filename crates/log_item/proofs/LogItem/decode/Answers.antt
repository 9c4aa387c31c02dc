-- `log_item::LogItem::decode` meets its contract.
-- Assumes nothing.
use mathlib.Core.Path.{sym}
use native.Mathlib.Omega.{arith}
use Rattle.std.proofs.Common.{rules}
use Rattle.log_item.proofs.Known.{head_room}
use Rattle.log_item.proofs.Counted.{item_done, item_no_tails}
use Rattle.log_item.proofs.LogItem.decode.Goals as goal

pub returns-in_err-last : goal.returns-in_err-last
returns-in_err-last c =
    let e = item_no_tails _ _ _ _ _ (sym c.in_ok-item.ensures) c.entries-count.ensures (sym c.in_err-last.ensures) in
    search rules

pub overflow_add-result : goal.overflow_add-result
overflow_add-result c =
    let h = head_room _ _ _ _ (sym c.in_ok-item.ensures) c.entries-count.ensures 18446744073709551615 (omega arith) (omega arith) in
    omega arith

pub returns : goal.returns
returns c = item_done _ _ _ _ _ (sym c.in_ok-item.ensures) c.entries-count.ensures (sym c.in_ok-last.ensures)
