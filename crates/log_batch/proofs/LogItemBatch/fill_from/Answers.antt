-- `log_batch::LogItemBatch::fill_from` meets its contract.
-- Assumes nothing.
use Rattle.std.proofs.Common.{◌≡◌, suc, ◌+◌, ◌-◌, sym, refl, arith}
use Rattle.log_item.specs.declared.Form.TheVariants.{Any}
use Rattle.log_item.proofs.Known.{tail_known}
use Rattle.log_batch.proofs.Filling.{begun, next_row_lem, filling_row_refused, tails_ended, ended, next_item, filling_item_refused}
use Rattle.log_batch.proofs.Tables.{refused_table, filled}
use Rattle.log_batch.proofs.LogItemBatch.fill_from.Goals as goal

pub loop-i-init : goal.loop-i-init
loop-i-init c = rw c.empty-t.ensures (refl, refl, begun _ c.requires)

pub returns-in-Err : goal.returns-in-Err
returns-in-Err c = refused_table _ _ (rw c.new.ensures at c.empty.ensures) (filling_item_refused c.loop-i.invariant.2 refl c.loop-i-test.true (sym c.in-Err.ensures))

pub loop-init : goal.loop-init
loop-init c =
    let inv = c.loop-i.invariant in
    (inv.0, inv.1, next_item inv.2 refl c.loop-i-test.true (sym c.in-Ok.ensures) c.entries-entries.ensures (omega arith))

pub returns-in-Err-decode_tail : goal.returns-in-Err-decode_tail
returns-in-Err-decode_tail c =
    let one : c.entries-entries.result.count - c.loop.counter ≡ suc (c.entries-entries.result.count - (c.loop.counter + 1)) = omega arith in
    refused_table _ _ (rw c.new-in-Err-decode_tail.ensures at c.empty-in-Err-decode_tail.ensures) (filling_row_refused c.loop.invariant.2 one refl (sym c.in-Err-decode_tail.ensures))

pub overflow_sub-t : goal.overflow_sub-t
overflow_sub-t c = omega (arith, tail_known Any _ _ _ (sym c.in-Ok-decode_tail.ensures))

pub loop-preserved : goal.loop-preserved
loop-preserved c =
    let inv = c.loop.invariant in
    let one : c.entries-entries.result.count - c.loop.counter ≡ suc (c.entries-entries.result.count - (c.loop.counter + 1)) = omega arith in
    (inv.0, inv.1, next_row_lem inv.2 one (sym c.in-Ok-decode_tail.ensures) refl)

pub loop-i-preserved : goal.loop-i-preserved
loop-i-preserved c = let inv = c.loop.invariant in (inv.0, inv.1, tails_ended inv.2 (omega arith))

pub returns : goal.returns
returns c =
    let inv = c.loop-i.invariant in
    filled _ inv.0 inv.1 inv.2 c.loop-i-test.false (ended inv.2 refl c.loop-i-test.false)
