-- `list_writer::measure_list` meets its contract. The loops' invariants: the rows so far are items, and the size so far and the verdict on what is
-- left give those of the whole list.
-- Assumes nothing.
use mathlib.Core.Path.{refl, sym, ap, ◌∙◌}
use Prim.Native.Nat.{ℕ, ◌+◌, ◌-◌}
use native.Mathlib.Omega.{arith}
use lib.ListN.{length, length-map}
use Rattle.std.proofs.Common.{rules}
use Rattle.codec.specs.Shortest.{shortest}
use Rattle.list_writer.proofs.Measuring.{Measuring, measuring_start, measuring_entry, measuring_same}
use Rattle.list_writer.proofs.Rows.{at_map, entry_at, rows_9, rows_item, rows_refused, rows_entry_refused, rows_end}
use Rattle.list_writer.proofs.measure_list.Goals as goal

pub returns-then-items-gt256 : goal.returns-then-items-gt256
returns-then-items-gt256 g c = rw c.from.ensures (rows_9 _ _ _ _ (omega (arith, length-map c.args.items.now g.I.ItemRow.spelled)))

pub loop-i-init : goal.loop-i-init
loop-i-init g c =
    record {
      few = c.if-items-gt256.false;
      sums = rw c.var_u64_len-size.ensures (measuring_start _ _ _ _ _ _ c.if-items-gt256.false refl);
    }

pub returns-in_err-head : goal.returns-in_err-head
returns-in_err-head g c =
    let n = length-map c.args.items.now g.I.ItemRow.spelled in
    let v = c.loop-i.invariant in
    let h =
    rows_refused _ _ _ _ (omega (arith, n)) v.sums _ {r = c.in_err-head.field-0.0} (length-map c.args.entries.now g.E.EntryRow.length) (omega arith) (omega (arith, n))
    (at_map g.I.ItemRow.spelled c.args.items.now c.loop-i.i _ c.index-items-i.is) (sym c.measure_row.ensures ∙ c.in_err-head.was) in
    rw (← h) (search rules)

pub overflow_add-size : goal.overflow_add-size
overflow_add-size g c =
    let n = length-map c.args.items.now g.I.ItemRow.spelled in
    let k = length-map c.args.entries.now g.E.EntryRow.length in
    let v = c.loop-i.invariant in
    let w =
    rows_item _ _ _ _ (omega (arith, n)) v.sums _ c.loop-i.i k (omega arith) (omega (arith, n))
    (at_map g.I.ItemRow.spelled c.args.items.now c.loop-i.i _ c.index-items-i.is) (sym c.measure_row.ensures ∙ c.in_ok-head.was) in
    omega arith

pub overflow_add-entry-items : goal.overflow_add-entry-items
overflow_add-entry-items g c =
    let n = length-map c.args.items.now g.I.ItemRow.spelled in
    let k = length-map c.args.entries.now g.E.EntryRow.length in
    let v = c.loop-i.invariant in
    let w =
    rows_item _ _ _ _ (omega (arith, n)) v.sums _ c.loop-i.i k (omega arith) (omega (arith, n))
    (at_map g.I.ItemRow.spelled c.args.items.now c.loop-i.i _ c.index-items-i.is) (sym c.measure_row.ensures ∙ c.in_ok-head.was) in
    omega arith

pub slice_bounds-entry-items-end : goal.slice_bounds-entry-items-end
slice_bounds-entry-items-end g c =
    let n = length-map c.args.items.now g.I.ItemRow.spelled in
    let k = length-map c.args.entries.now g.E.EntryRow.length in
    let v = c.loop-i.invariant in
    let w =
    rows_item _ _ _ _ (omega (arith, n)) v.sums _ c.loop-i.i k (omega arith) (omega (arith, n))
    (at_map g.I.ItemRow.spelled c.args.items.now c.loop-i.i _ c.index-items-i.is) (sym c.measure_row.ensures ∙ c.in_ok-head.was) in
    omega arith

pub loop-entry-init : goal.loop-entry-init
loop-entry-init g c =
    let n = length-map c.args.items.now g.I.ItemRow.spelled in
    let k = length-map c.args.entries.now g.E.EntryRow.length in
    let v = c.loop-i.invariant in
    let w =
    rows_item _ _ _ _ (omega (arith, n)) v.sums _ c.loop-i.i k (omega arith) (omega (arith, n))
    (at_map g.I.ItemRow.spelled c.args.items.now c.loop-i.i _ c.index-items-i.is) (sym c.measure_row.ensures ∙ c.in_ok-head.was) in
    record { few = v.few; begun = omega arith; sums = measuring_same _ _ _ _ w (omega arith) (omega arith) }

pub returns-then-from-len : goal.returns-then-from-len
returns-then-from-len g c =
    let v = c.loop-entry.invariant in
    let k = length-map c.args.entries.now g.E.EntryRow.length in
    let d = entry_at g.E.EntryRow.length c.args.entries.now c.loop-i.used _ c.loop-entry.entry-index _ c.entry-item.is (omega arith) (omega (arith, v.sums.room)) in
    rw c.new.ensures (rows_entry_refused _ _ _ _ (omega (arith, length-map c.args.items.now g.I.ItemRow.spelled)) v.sums _ (omega arith) d (omega arith) c.loop-i.i refl)

pub overflow_add-size-in-loop-entry : goal.overflow_add-size-in-loop-entry
overflow_add-size-in-loop-entry g c =
    let v = c.loop-entry.invariant in
    let k = length-map c.args.entries.now g.E.EntryRow.length in
    let d = entry_at g.E.EntryRow.length c.args.entries.now c.loop-i.used _ c.loop-entry.entry-index _ c.entry-item.is (omega arith) (omega (arith, v.sums.room)) in
    let n = c.var_u64_len-size-in-loop-entry.ensures ∙ ap (λ (n : ℕ). length (shortest n)) c.from-in-loop-entry-2.ensures in
    let w : Measuring _ _ _ _ _ (c.loop-i.i + 1) (c.loop-i.used + (c.loop-entry.entry-index + 1)) (c.in_ok-head.head.count - (c.loop-entry.entry-index + 1)) _ _ =
    measuring_entry _ _ _ _ v.sums _ (c.loop-entry.total + c.entry_len-len.result) _ (omega arith) d (omega (arith, c.entry_len-len.ensures)) (omega arith) n (omega arith) (omega arith) in
    omega (arith, w.small, w.within, c.loop-i.invariant.few)

pub loop-entry-preserved : goal.loop-entry-preserved
loop-entry-preserved g c =
    let v = c.loop-entry.invariant in
    let k = length-map c.args.entries.now g.E.EntryRow.length in
    let d = entry_at g.E.EntryRow.length c.args.entries.now c.loop-i.used _ c.loop-entry.entry-index _ c.entry-item.is (omega arith) (omega (arith, v.sums.room)) in
    let n = c.var_u64_len-size-in-loop-entry.ensures ∙ ap (λ (n : ℕ). length (shortest n)) c.from-in-loop-entry-2.ensures in
    let w : Measuring _ _ _ _ _ (c.loop-i.i + 1) (c.loop-i.used + (c.loop-entry.entry-index + 1)) (c.in_ok-head.head.count - (c.loop-entry.entry-index + 1)) _ _ =
    measuring_entry _ _ _ _ v.sums _ (c.loop-entry.total + c.entry_len-len.result) _ (omega arith) d (omega (arith, c.entry_len-len.ensures)) (omega arith) n (omega arith) (omega arith) in
    record { few = v.few; begun = omega arith; sums = w }

pub returns : goal.returns
returns g c =
    let n = length-map c.args.items.now g.I.ItemRow.spelled in
    let v = c.loop-i.invariant in
    c.finish.ensures ∙ rows_end _ _ _ _ (omega (arith, n)) v.sums (ap (λ (n : ℕ). length (shortest n)) (sym n)) (omega arith) (omega (arith, n))
