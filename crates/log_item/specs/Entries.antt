-- The entries that an item states, the row of a tail, and the type byte of a content.
-- Assumes nothing.
use Rattle.std.specs.Prelude.{ℕ, ◌-◌}
use Rattle.log_item.specs.declared.EntryIndex.{EntryIndex}
use Rattle.log_item.specs.declared.EntryIndexes.{EntryIndexes}
use Rattle.log_item.specs.declared.LogItemContent.{LogItemContent}
use Rattle.log_item.specs.declared.LogItemContent.TheVariants as content

-- count and first index; a command or a key has none
abbrev pub entries_of : LogItemContent → EntryIndexes
entries_of (content.EntryIndexes e) = e
entries_of (content.Command c) = record { count = 0; first_index = 0 }
entries_of (content.Kv k) = record { count = 0; first_index = 0 }

-- the row of a tail w, with the index i and the total t before it
abbrev pub tail_row : ℕ → ℕ → ℕ → EntryIndex
tail_row i t w = record { index = i; entry_offset = t; entry_len = w - t }

abbrev pub type_of : LogItemContent → ℕ
type_of (content.EntryIndexes e) = 1
type_of (content.Command c) = 2
type_of (content.Kv k) = 3
