-- `list_writer::encode_list` meets its contract. The loops' invariant, `Writing`: what is left, stored from here on, completes count and items.
-- Assumes nothing.
use mathlib.Core.Path.{◌≡◌, sym, ap, ◌∙◌}
use Prim.Native.Nat.{◌+◌, ◌-◌}
use native.Mathlib.Omega.{arith}
use lib.ListN.{length-map}
use Rattle.std.proofs.Common.{rules, Err}
use Rattle.log_item.specs.declared.EntryIndexes.{EntryIndexes}
use Rattle.list_writer.proofs.Rows.{at_map, entry_at, item_there, each_item, rows_accepted}
use Rattle.list_writer.proofs.Writing.{Writing, row_low, item_rows, writing_item, writing_entry, writing_same}
use Rattle.list_writer.proofs.Bodies.{accepted, writing_begins, body_stored, body_length, placing_told, refused_laid, short_laid, all_laid}
use Rattle.list_writer.proofs.encode_list.Goals as goal

pub returns-in_err-m : goal.returns-in_err-m
returns-in_err-m g c =
    let q : c.from_residual.result ≡ Err c.in_err-m.field-0.0 = search rules in
    rw q (refused_laid _ _ _ (sym c.measure_list.ensures ∙ c.in_err-m.was))

pub returns-in_err-length : goal.returns-in_err-length
returns-in_err-length g c =
    let q : c.from_residual-in_err-length.result ≡ Err c.in_err-length.field-0.0 = search rules in
    rw q (short_laid _ _ _ (sym c.measure_list.ensures ∙ c.in_ok-m.was) (sym c.in_err-length.was ∙ c.placing.ensures))

pub loop-row-init : goal.loop-row-init
loop-row-init g c =
    let e = rows_accepted _ _ _ _ c.in_ok-m.m (sym c.in_ok-m.was ∙ c.measure_list.ensures) in
    let p = placing_told c.in_ok-m.m _ c.args.at (omega (arith, (accepted _ _ _ _ c.in_ok-m.m e.0).whole)) (sym c.in_ok-length.was ∙ c.placing.ensures) in
    record { bytes = writing_begins (accepted _ _ _ _ c.in_ok-m.m e.0) p.0 (e.1 ∙ length-map c.args.items.now g.I.ItemRow.spelled) c.put_var_u64-next.ensures }

pub returns-in_default : goal.returns-in_default
returns-in_default g c =
    let e = rows_accepted _ _ _ _ c.in_ok-m.m (sym c.in_ok-m.was ∙ c.measure_list.ensures) in
    let n = length-map c.args.items.now g.I.ItemRow.spelled in
    let there = at_map g.I.ItemRow.spelled c.args.items.now c.loop-row.row-index _ c.row-item.is in
    let p = each_item _ c.loop-row.row-index _ there (omega (arith, n)) (e.1) in
    absurd (c.in_default.not-Ok _ (c.item.ensures ∙ p.1))

pub overflow_add-entry-items : goal.overflow_add-entry-items
overflow_add-entry-items g c =
    let n = length-map c.args.items.now g.I.ItemRow.spelled in
    let k = length-map c.args.entries.now g.E.EntryRow.length in
    let v = c.loop-row.invariant in
    let there = rw (sym c.item.ensures ∙ c.in-Ok.is) at (at_map g.I.ItemRow.spelled c.args.items.now c.loop-row.row-index _ c.row-item.is) in
    let p = item_there _ c.loop-row.row-index c.in-Ok.item there (omega (arith, n)) v.bytes.most in
    let w = item_rows v.bytes c.in-Ok.item (omega arith) p.0 p.1 in
    omega (arith, ap (λ (e : EntryIndexes). e.count) c.entries-count.ensures)

pub slice_bounds-entry-items-end : goal.slice_bounds-entry-items-end
slice_bounds-entry-items-end g c =
    let n = length-map c.args.items.now g.I.ItemRow.spelled in
    let k = length-map c.args.entries.now g.E.EntryRow.length in
    let v = c.loop-row.invariant in
    let there = rw (sym c.item.ensures ∙ c.in-Ok.is) at (at_map g.I.ItemRow.spelled c.args.items.now c.loop-row.row-index _ c.row-item.is) in
    let p = item_there _ c.loop-row.row-index c.in-Ok.item there (omega (arith, n)) v.bytes.most in
    let w = item_rows v.bytes c.in-Ok.item (omega arith) p.0 p.1 in
    omega (arith, ap (λ (e : EntryIndexes). e.count) c.entries-count.ensures)

pub loop-entry-init : goal.loop-entry-init
loop-entry-init g c =
    let n = length-map c.args.items.now g.I.ItemRow.spelled in
    let k = length-map c.args.entries.now g.E.EntryRow.length in
    let v = c.loop-row.invariant in
    let there = rw (sym c.item.ensures ∙ c.in-Ok.is) at (at_map g.I.ItemRow.spelled c.args.items.now c.loop-row.row-index _ c.row-item.is) in
    let p = item_there _ c.loop-row.row-index c.in-Ok.item there (omega (arith, n)) v.bytes.most in
    let w = writing_item v.bytes c.in-Ok.item _ _ c.entries-count.result.count (omega arith) p.0 p.1 (ap (λ (e : EntryIndexes). e.count) c.entries-count.ensures) c.write_head-next.ensures in
    record { begun = omega arith; bytes = writing_same w (omega arith) (omega arith) }

pub overflow_cast-total : goal.overflow_cast-total
overflow_cast-total g c =
    let v = c.loop-entry.invariant in
    let k = length-map c.args.entries.now g.E.EntryRow.length in
    let d = entry_at g.E.EntryRow.length c.args.entries.now c.loop-row.used _ c.loop-entry.entry-index _ c.entry-item.is (omega arith) (omega (arith, v.bytes.room)) in
    omega (arith, row_low v.bytes _ (omega arith) d, c.entry_len.ensures)

pub overflow_add-total : goal.overflow_add-total
overflow_add-total g c =
    let v = c.loop-entry.invariant in
    let k = length-map c.args.entries.now g.E.EntryRow.length in
    let d = entry_at g.E.EntryRow.length c.args.entries.now c.loop-row.used _ c.loop-entry.entry-index _ c.entry-item.is (omega arith) (omega (arith, v.bytes.room)) in
    omega (arith, row_low v.bytes _ (omega arith) d, c.entry_len.ensures)

pub loop-entry-preserved : goal.loop-entry-preserved
loop-entry-preserved g c =
    let v = c.loop-entry.invariant in
    let k = length-map c.args.entries.now g.E.EntryRow.length in
    let d = entry_at g.E.EntryRow.length c.args.entries.now c.loop-row.used _ c.loop-entry.entry-index _ c.entry-item.is (omega arith) (omega (arith, v.bytes.room)) in
    let w : Writing _ _ _ _ _ _ _ (c.loop-row.row-index + 1) (c.loop-row.used + (c.loop-entry.entry-index + 1)) (c.entries-count.result.count - (c.loop-entry.entry-index + 1)) _ =
    writing_entry v.bytes _ (c.loop-entry.total + c.entry_len.result) _ _ (omega arith) d (omega (arith, c.entry_len.ensures)) (rw c.from.ensures at c.put_var_u64-next-in-loop-entry.ensures) (omega arith) (omega arith) in
    record { begun = omega arith; bytes = w }

pub returns : goal.returns
returns g c =
    let e = rows_accepted _ _ _ _ c.in_ok-m.m (sym c.in_ok-m.was ∙ c.measure_list.ensures) in
    let n = length-map c.args.items.now g.I.ItemRow.spelled in
    let a = accepted _ _ _ _ c.in_ok-m.m e.0 in
    let q = sym c.in_ok-length.was ∙ c.placing.ensures in
    let p = placing_told c.in_ok-m.m _ c.args.at (omega (arith, a.whole)) q in
    let l = body_length c.args.signature a in
    all_laid _ _ _ (sym c.measure_list.ensures ∙ c.in_ok-m.was) q l (omega (arith, a.whole))
    (body_stored a p.0 c.loop-row.invariant.bytes (omega arith) (omega (arith, n, e.1)) c.args.signature c.write_footer.ensures)
