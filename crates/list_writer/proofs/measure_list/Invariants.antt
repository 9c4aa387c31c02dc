-- `list_writer::measure_list` meets its contract. The loops' invariants: the rows so far are items, and the size so far and the verdict on what is
-- left give those of the whole list.
-- Assumes nothing.
use Prim.Native.Nat.{◌≤◌, ◌-◌, ◌+◌}
use Rattle.std.specs.Prelude.{map}
use lib.ListN.{length}
use Rattle.codec.specs.Shortest.{shortest}
use Rattle.list_writer.specs.Rows.{items_before}
use Rattle.list_writer.proofs.Measuring.{Measuring}
use Rattle.list_writer.proofs.measure_list.Given as goal

abbrev pub invariant-loop-entry : goal.invariant-loop-entry
invariant-loop-entry g l =
    record {
      few : length l.items ≤ 256;
      begun : l.entry-index ≤ l.head.count;
      sums :
          Measuring l.store l.checked (items_before (map g.I.ItemRow.spelled l.items)) (map g.E.EntryRow.length l.entries) (length (shortest (length l.items)))
          (l.i + 1) (l.used + l.entry-index) (l.head.count - l.entry-index) l.total l.size;
    }

abbrev pub invariant-loop-i : goal.invariant-loop-i
invariant-loop-i g l =
    record {
      few : length l.items ≤ 256;
      sums :
          Measuring l.store l.checked (items_before (map g.I.ItemRow.spelled l.items)) (map g.E.EntryRow.length l.entries) (length (shortest (length l.items)))
          l.i l.used 0 l.total l.size;
    }
