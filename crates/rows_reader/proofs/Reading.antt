-- Where the rows of a body fit, by what the check of it answers.
-- Assumes nothing.
use Rattle.std.proofs.Common.{◌≡◌, ℕ, ◌≤◌, List, length, Ok, refl, arith}
use Rattle.log_item.specs.declared.Form.TheVariants.{Any}
use Rattle.log_item.specs.declared.LogItem.{LogItem}
use Rattle.log_item.specs.declared.EntryIndex.{EntryIndex}
use Rattle.item_row.specs.Row.{item_row_count, entry_row_count}
use Rattle.log_batch.specs.declared.BodyCheck.{BodyCheck}
use Rattle.log_batch.specs.Reading.{Answer, accepted, rejected, read_items}
use Rattle.log_batch.specs.Answers.{check_of}
use Rattle.rows_reader.specs.Private.{Fits}

-- the list of a body that holds so much
record Holding (a : Answer) (k : BodyCheck) : Type 0 where
  xs : List LogItem
  rows : List EntryIndex
  reads : a ≡ accepted xs rows k.total k.next
  many : length xs ≡ k.items
  used : length rows ≡ k.entries

holding : (a : Answer) {k : BodyCheck} → Ok k ≡ check_of a → Holding a k
holding (accepted xs rows u q) {k} e =
    let same : k ≡ record { items = length xs; entries = length rows; total = u; next = q } = cc in
    rw same (record { xs = xs; rows = rows; reads = refl; many = refl; used = refl })
holding (rejected r i) e = absurd (cc)

pub fits : (s items entries : List ℕ) (k : BodyCheck) → Ok k ≡ check_of (read_items Any s) → k.items ≤ item_row_count items → k.entries ≤ entry_row_count entries
    → Fits s items entries
fits s items entries k e room more =
    let g = holding (read_items Any s) e in
    record {
      xs = g.xs;
      rows = g.rows;
      total = k.total;
      next = k.next;
      reads = g.reads;
      item_room = omega (arith, g.many);
      entry_room = omega (arith, g.used);
    }
