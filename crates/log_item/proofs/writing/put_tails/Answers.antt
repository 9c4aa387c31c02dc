-- `log_item::writing::put_tails` meets its contract.
-- Assumes nothing.
use Rattle.std.proofs.Common.{arith}
use Rattle.log_item.proofs.Tails.{putting_small, putting_room, putting_next, putting_end}
use Rattle.log_item.proofs.writing.put_tails.Goals as goal

pub overflow_add-total : goal.overflow_add-total
overflow_add-total c = omega (arith, putting_small c.loop-len.invariant c.loop-len-test.true)

pub put_number-at-requires : goal.put_number-at-requires
put_number-at-requires c = rw c.from.ensures (putting_room c.loop-len.invariant c.loop-len-test.true)

pub loop-len-preserved : goal.loop-len-preserved
loop-len-preserved c = putting_next c.loop-len.invariant c.loop-len-test.true (rw c.from.ensures at c.put_number-at.ensures)

pub returns : goal.returns
returns c = putting_end c.loop-len.invariant c.loop-len-test.false
