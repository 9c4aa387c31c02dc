-- An item as it is read back where it was written: places and later indexes are worked out afresh. And the spans and the numbers of a content.
-- Assumes nothing.
use Rattle.std.specs.Prelude.{ℕ, zero, suc, ◌+◌, ◌<◌, ◌^◌, List, [], ◌∷◌, length}
use Rattle.codec.specs.Shortest.{shortest}
use Rattle.log_item.specs.Entries.{entries_of}
use Rattle.log_item.specs.declared.Span.{Span}
use Rattle.log_item.specs.declared.Command.TheVariants.{Clean, Compact}
use Rattle.log_item.specs.declared.Op.{Op}
use Rattle.log_item.specs.declared.Op.TheVariants.{Put, Del}
use Rattle.log_item.specs.declared.KeyValue.{KeyValue}
use Rattle.log_item.specs.declared.EntryIndexes.{EntryIndexes}
use Rattle.log_item.specs.declared.LogItemContent.{LogItemContent}
use Rattle.log_item.specs.declared.LogItemContent.TheVariants as contents
use Rattle.log_item.specs.declared.LogItem.{LogItem}
use Rattle.log_item.specs.declared.EntryIndex.{EntryIndex}
use Rattle.log_item.specs.Each.{Each}
use Rattle.log_item.specs.Written.{row_lengths}

-- a span whose length is written at the place p: it is where its own bytes stand
abbrev pub span_at : ℕ → Span → Span
span_at p k = record { at = p + length (shortest k.len); len = k.len }

-- a key whose op stands at the place p; a content begins where its key ends
unfoldable pub key_at : ℕ → Span → Op → KeyValue
key_at p key (Put v) = let k = span_at (p + 1) key in record { key = k; op = Put (span_at (k.at + k.len) v) }
key_at p key Del = record { key = span_at (p + 1) key; op = Del }

-- first index 0 where n = 0
unfoldable pub stated : ℕ → ℕ → EntryIndexes
stated zero i = record { count = 0; first_index = 0 }
stated (suc n) i = record { count = suc n; first_index = i }

unfoldable pub content_at : ℕ → LogItemContent → LogItemContent
content_at p (contents.EntryIndexes e) = contents.EntryIndexes (stated e.count e.first_index)
content_at p (contents.Command c) = contents.Command c
content_at p (contents.Kv k) = contents.Kv (key_at p k.key k.op)

-- an item that is written at the place p: its content stands behind the group number and the type byte
unfoldable pub item_at : ℕ → LogItem → LogItem
item_at p x = record { raft_group_id = x.raft_group_id; content = content_at (p + length (shortest x.raft_group_id) + 1) x.content }

-- rows of the given lengths, with consecutive indexes from i on, and offsets from t on
unfoldable pub rows_from : ℕ → ℕ → List ℕ → List EntryIndex
rows_from i t [] = []
rows_from i t (n ∷ lengths) = record { index = i; entry_offset = t; entry_len = n } ∷ rows_from (i + 1) (t + n) lengths

unfoldable pub item_rows_of : LogItem → List ℕ → ℕ → List EntryIndex
item_rows_of x lengths t = rows_from (entries_of x.content).first_index t (row_lengths x lengths)

-- the key, and the content of a put
unfoldable pub spans_of : LogItemContent → List Span
spans_of (contents.EntryIndexes e) = []
spans_of (contents.Command c) = []
spans_of (contents.Kv k) = k.key ∷ value_of k.op
  where
    value_of : Op → List Span
    value_of (Put v) = v ∷ []
    value_of Del = []

-- the numbers of a content
unfoldable pub numbers_of : LogItemContent → List ℕ
numbers_of (contents.EntryIndexes e) = e.count ∷ e.first_index ∷ []
numbers_of (contents.Command Clean) = []
numbers_of (contents.Command (Compact i)) = i ∷ []
numbers_of (contents.Kv k) = k.key.len ∷ length_of k.op
  where
    length_of : Op → List ℕ
    length_of (Put v) = v.len ∷ []
    length_of Del = []

-- each is below 2^64
abbrev pub Small : List ℕ → Type 0
Small ns = Each (λ (n : ℕ). n < 2 ^ 64) ns
