-- `list_writer::encode_list` meets its contract. The loops' invariant, `Writing`: what is left, stored from here on, completes count and items.
-- Assumes nothing.
use Prim.Native.Nat.{◌≤◌, ◌-◌, ◌+◌}
use Rattle.std.specs.Prelude.{map}
use Rattle.list_writer.specs.Rows.{items_before}
use Rattle.list_writer.proofs.Writing.{Writing}
use Rattle.list_writer.proofs.encode_list.Given as goal

abbrev pub invariant-loop-entry : goal.invariant-loop-entry
invariant-loop-entry g l =
    record {
      begun : l.entry-index ≤ l.count;
      bytes :
          Writing l.store (items_before (map g.I.ItemRow.spelled l.items)) (map g.E.EntryRow.length l.entries) l.fn.out l.at l.out l.next
          (l.row-index + 1) (l.used + l.entry-index) (l.count - l.entry-index) l.total;
    }

abbrev pub invariant-loop-row : goal.invariant-loop-row
invariant-loop-row g l =
    record {
      bytes :
          Writing l.store (items_before (map g.I.ItemRow.spelled l.items)) (map g.E.EntryRow.length l.entries) l.fn.out l.at l.out l.next
          l.row-index l.used 0 l.total;
    }
