-- The ceilings of an entry: an index at most 2^64 - 1 and a tail at most 4,294,967,295.
-- Assumes nothing.
use Rattle.std.specs.Prelude.{◌+◌, ◌≤◌}
use Rattle.log_item.specs.declared.EntryIndex.{EntryIndex}

-- the tail of a row is where its entry ends
pub record RowFits (r : EntryIndex) : Type 0 where
  pub index : r.index ≤ 18446744073709551615
  pub tail : r.entry_offset + r.entry_len ≤ 4294967295
