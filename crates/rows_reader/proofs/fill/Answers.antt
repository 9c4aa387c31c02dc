-- `rows_reader::fill` meets its contract.
-- Assumes nothing.
use Rattle.std.proofs.Common.{◌≡◌, suc, ◌+◌, ◌-◌, ◌*◌, sym, refl, arith}
use Rattle.log_item.specs.declared.Form.TheVariants.{Any}
use Rattle.log_item.proofs.Known.{tail_known}
use Rattle.rows_reader.proofs.Storing.{part_stored, number_never, storing_start, row_never, row_room, storing_row, storing_item_done, stored_all, item_never, item_room, storing_item}
use Rattle.rows_reader.proofs.fill.Goals as goal

pub returns-in_default : goal.returns-in_default
returns-in_default c = number_never c.requires (sym c.in_default.ensures)

pub loop-i-init : goal.loop-i-init
loop-i-init c = storing_start c.requires (sym c.in-Ok.ensures)

pub returns-in_default-decode_head : goal.returns-in_default-decode_head
returns-in_default-decode_head c = item_never c.requires c.loop-i.invariant refl c.loop-i-test.true (sym c.in_default-decode_head.ensures)

pub slice_bounds-put_item-end : goal.slice_bounds-put_item-end
slice_bounds-put_item-end c = item_room c.requires c.loop-i.invariant refl c.loop-i-test.true (sym c.in-Ok-decode_head.ensures) refl refl

pub loop-init : goal.loop-init
loop-init c =
    storing_item c.requires c.loop-i.invariant refl c.loop-i-test.true (sym c.in-Ok-decode_head.ensures) c.entries-listed.ensures (omega arith) refl (part_stored (c.loop-i.i * 7) 7 c.loop-i.items c.put_item.ensures)

pub returns-in_default-decode_tail : goal.returns-in_default-decode_tail
returns-in_default-decode_tail c =
    let one : c.entries-listed.result.count - c.loop.counter ≡ suc (c.entries-listed.result.count - (c.loop.counter + 1)) = omega arith in
    row_never c.requires c.loop.invariant one c.loop-i.i refl (sym c.in_default-decode_tail.ensures)

pub overflow_sub-row : goal.overflow_sub-row
overflow_sub-row c = omega (arith, tail_known Any _ _ _ (sym c.in-Ok-decode_tail.ensures))

pub slice_bounds-put_entry-end : goal.slice_bounds-put_entry-end
slice_bounds-put_entry-end c =
    let one : c.entries-listed.result.count - c.loop.counter ≡ suc (c.entries-listed.result.count - (c.loop.counter + 1)) = omega arith in
    row_room c.requires c.loop.invariant one (sym c.in-Ok-decode_tail.ensures)

pub loop-preserved : goal.loop-preserved
loop-preserved c =
    let one : c.entries-listed.result.count - c.loop.counter ≡ suc (c.entries-listed.result.count - (c.loop.counter + 1)) = omega arith in
    storing_row c.requires c.loop.invariant one (sym c.in-Ok-decode_tail.ensures) refl (part_stored (c.loop.j * 3) 3 c.loop.entries c.put_entry.ensures)

pub loop-i-preserved : goal.loop-i-preserved
loop-i-preserved c = storing_item_done c.requires c.loop.invariant (omega arith)

pub returns : goal.returns
returns c = stored_all c.requires c.loop-i.invariant refl c.loop-i-test.false
