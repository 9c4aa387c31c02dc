-- The ceilings of a list: 256 items, 1,024 entries, and those of each entry.
-- Assumes nothing.
use Rattle.std.specs.Prelude.{◌≤◌, List, length}
use Rattle.log_item.specs.declared.LogItem.{LogItem}
use Rattle.log_item.specs.declared.EntryIndex.{EntryIndex}
use Rattle.log_item.specs.Each.{Each}
use Rattle.log_item.specs.Limits.{RowFits}

pub record Within (xs : List LogItem) (rows : List EntryIndex) : Type 0 where
  pub items : length xs ≤ 256
  pub entries : length rows ≤ 1024
  pub each : Each RowFits rows
