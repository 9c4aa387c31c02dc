-- The items and the entry lengths that lent rows hold, and the measure and the bytes of the body that is written from them. A row that spells no
-- item is refused at its turn.
-- Assumes nothing.
use Rattle.std.specs.Prelude.{ℕ, zero, suc, ◌+◌, ◌*◌, Bool, List, [], ◌∷◌, Result, get_or}
use Rattle.refusal.specs.declared.Reason.{Reason}
use Rattle.refusal.specs.declared.Refusal.{Refusal}
use Rattle.log_item.specs.declared.LogItem.{LogItem}
use Rattle.item_row.specs.Row.{item_row_count, entry_row_count, item_of_row}
use Rattle.list_writer.specs.declared.Measured.{Measured}
use Rattle.list_writer.specs.Rows as list
use Rattle.list_writer.specs.Rows.{items_before, rows_measure}

-- what n rows from row i on spell
unfoldable pub rows_from : List ℕ → ℕ → ℕ → List (Result LogItem Reason)
rows_from words zero i = []
rows_from words (suc n) i = item_of_row words i ∷ rows_from words n (i + 1)

abbrev pub rows_of : List ℕ → List (Result LogItem Reason)
rows_of words = rows_from words (item_row_count words) 0

-- the items, up to the first row that is none
abbrev pub row_items : List ℕ → List LogItem
row_items words = items_before (rows_of words)

-- the lengths of n entry rows from row j on; they are the last of their three words
unfoldable pub lengths_from : List ℕ → ℕ → ℕ → List ℕ
lengths_from words zero j = []
lengths_from words (suc n) j = get_or words (j * 3 + 2) 0 ∷ lengths_from words n (j + 1)

-- as many as there are
unfoldable pub entry_lengths : List ℕ → List ℕ
entry_lengths words = lengths_from words (entry_row_count words) 0

-- the first refusal but 21, or the body's length and the entry total
unfoldable pub measure_rows : List ℕ → Bool → List ℕ → List ℕ → Result Measured Refusal
measure_rows s checked items entries = rows_measure s checked (rows_of items) (entry_lengths entries)

-- the bytes of the body
abbrev pub rows_bytes : List ℕ → List ℕ → List ℕ → ℕ → List ℕ
rows_bytes s items entries signature = list.rows_bytes s (rows_of items) (entry_lengths entries) signature
