-- What writing a table's items as a body answers, what it leaves in the buffer, and the list that is read back.
-- Assumes nothing.
use Rattle.std.specs.Prelude.{ℕ, ◌+◌, Bool, List, [], ◌∷◌, ◌++◌, map, length, drop, Result}
use Rattle.codec.specs.Shortest.{shortest}
use Rattle.log_item.specs.Entries.{entries_of}
use Rattle.log_item.specs.Prefix.{bytes_of}
use Rattle.log_item.specs.declared.LogItem.{LogItem}
use Rattle.log_item.specs.declared.EntryIndex.{EntryIndex}
use Rattle.log_item.specs.Written as item
use Rattle.log_item.specs.Each.{Each}
use Rattle.log_item.specs.Relocated.{item_at, item_rows_of, spans_of, numbers_of, Small}
use Rattle.refusal.specs.declared.Refusal.{Refusal}
use Rattle.list_writer.specs.Bytes.{items_of, lengths_of, body_bytes}
use Rattle.list_writer.specs.Answers.{measure_of, MeasuredWritten}
use Rattle.log_batch.specs.declared.LogItemBatch.{LogItemBatch}

-- the items of a table, and the lengths of its entry rows
abbrev pub listed : LogItemBatch → List LogItem
listed t = items_of t.items t.item_count

abbrev pub table_lengths : LogItemBatch → List ℕ
table_lengths t = lengths_of t.entries t.entry_count

-- the answer r and the later contents of out: the body's bytes, then what stood there; out as it was where the body is refused
abbrev pub BodyWritten : Bool → LogItemBatch → List ℕ → ℕ → List ℕ → Result ℕ Refusal → List ℕ → Type 0
BodyWritten checked t store signature out r later =
    MeasuredWritten (measure_of store checked (listed t) (table_lengths t)) (body_bytes store (listed t) (table_lengths t) signature) out 0 r later

-- the items that are written from the place p on, each with its places worked out afresh: it stands where the one before ended
unfoldable pub items_at : List ℕ → List LogItem → List ℕ → ℕ → ℕ → List LogItem
items_at s [] lengths p t = []
items_at s (x ∷ xs) lengths p t =
    item_at p x
    ∷ items_at s xs (drop (entries_of x.content).count lengths) (p + length (item.item_bytes s x lengths t)) (item.sum_of t (item.row_lengths x lengths))

-- their rows: each item uses the next of the lengths, and the total t runs on
unfoldable pub rows_at : List LogItem → List ℕ → ℕ → List EntryIndex
rows_at [] lengths t = []
rows_at (x ∷ xs) lengths t =
    item_rows_of x lengths t ++ rows_at xs (drop (entries_of x.content).count lengths) (item.sum_of t (item.row_lengths x lengths))

-- the list of a body: its items stand behind their count, and the total runs from 0
abbrev pub body_items : List ℕ → List LogItem → List ℕ → List LogItem
body_items s xs lengths = items_at s xs lengths (length (shortest (length xs))) 0

abbrev pub body_rows : List LogItem → List ℕ → List EntryIndex
body_rows xs lengths = rows_at xs lengths 0

-- the bytes of each item's key and content, where the spans lie in s
abbrev pub keys_and_contents : List ℕ → List LogItem → List (List (List ℕ))
keys_and_contents s xs = map (λ (x : LogItem). map (bytes_of s) (spans_of x.content)) xs

-- the numbers of each item are below 2^64
abbrev pub AllSmall : List LogItem → Type 0
AllSmall xs = Each (λ (x : LogItem). Small (x.raft_group_id ∷ numbers_of x.content)) xs
