-- What the contracts of private functions cite: this file serves them alone, and no public contract.
-- Assumes nothing.
use Rattle.std.specs.Prelude.{◌≡◌, ℕ, ◌*◌, ◌≤◌, List, length}
use Rattle.log_item.specs.declared.Form.TheVariants.{Any}
use Rattle.log_item.specs.declared.LogItem.{LogItem}
use Rattle.log_item.specs.declared.EntryIndex.{EntryIndex}
use Rattle.log_batch.specs.Reading.{accepted, read_items}

-- The body is accepted, and its rows fit.
pub record Fits (s items entries : List ℕ) : Type 0 where
  pub xs : List LogItem
  pub rows : List EntryIndex
  pub total : ℕ
  pub next : ℕ
  pub reads : read_items Any s ≡ accepted xs rows total next
  pub item_room : length xs * 7 ≤ length items
  pub entry_room : length rows * 3 ≤ length entries
