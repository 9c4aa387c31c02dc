-- The rows of a table that hold nothing: every number 0.
-- Assumes nothing.
use Rattle.log_item.specs.declared.LogItemContent.TheVariants as contents
use Rattle.log_item.specs.declared.LogItem.{LogItem}
use Rattle.log_item.specs.declared.EntryIndex.{EntryIndex}

abbrev pub blank_item : LogItem
blank_item = record { raft_group_id = 0; content = contents.EntryIndexes (record { count = 0; first_index = 0 }) }

abbrev pub blank_entry : EntryIndex
blank_entry = record { index = 0; entry_offset = 0; entry_len = 0 }
