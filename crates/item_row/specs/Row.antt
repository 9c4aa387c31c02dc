-- How an item stands in seven words: group, type, and five words by type and kind. The layout is that of raft_log.h. An entry stands in three.
-- Assumes nothing.
use Rattle.std.specs.Prelude.{ℕ, ◌+◌, ◌*◌, ◌/◌, Result, Ok, Err, cond, eqb, length, get_or}
use mathlib.Core.List.{List, [], ◌∷◌, flat_map}
use Rattle.log_item.specs.declared.Span.{Span}
use Rattle.log_item.specs.declared.Command.{Command}
use Rattle.log_item.specs.declared.Command.TheVariants.{Clean, Compact}
use Rattle.log_item.specs.declared.Op.{Op}
use Rattle.log_item.specs.declared.Op.TheVariants.{Put, Del}
use Rattle.log_item.specs.declared.LogItemContent.{LogItemContent}
use Rattle.log_item.specs.declared.LogItemContent.TheVariants as contents
use Rattle.log_item.specs.declared.LogItem.{LogItem}
use Rattle.log_item.specs.declared.EntryIndex.{EntryIndex}
use Rattle.refusal.specs.declared.Reason.{Reason}
use Rattle.refusal.specs.declared.Reason.TheVariants.{CommandUnknown, ItemTypeUnknown, OpUnknown}

-- how many rows of items, or of entries, lent words hold
abbrev pub item_row_count : List ℕ → ℕ
item_row_count words = length words / 7

abbrev pub entry_row_count : List ℕ → ℕ
entry_row_count words = length words / 3

-- ---- from words to an item

abbrev pub item_of : ℕ → LogItemContent → Result LogItem Reason
item_of group content = Ok (record { raft_group_id = group; content = content })

abbrev pub span_of : ℕ → ℕ → Span
span_of at len = record { at = at; len = len }

-- 1 clean, or 2 compact and an index
unfoldable pub command_row : ℕ → ℕ → ℕ → Result LogItem Reason
command_row group kind a =
    cond (eqb kind 1) (item_of group (contents.Command Clean))
    (cond (eqb kind 2) (item_of group (contents.Command (Compact a)))
    (Err CommandUnknown))

-- 1 put (key, content) or 2 delete (key)
unfoldable pub key_row : ℕ → ℕ → Span → Span → Result LogItem Reason
key_row group kind key value =
    cond (eqb kind 1) (item_of group (contents.Kv (record { key = key; op = Put value })))
    (cond (eqb kind 2) (item_of group (contents.Kv (record { key = key; op = Del })))
    (Err OpUnknown))

-- the item of seven words; those that it has no use for do not matter
unfoldable pub row_item : ℕ → ℕ → ℕ → ℕ → ℕ → ℕ → ℕ → Result LogItem Reason
row_item group item-type kind a b c d =
    cond (eqb item-type 1) (item_of group (contents.EntryIndexes (record { count = a; first_index = b })))
    (cond (eqb item-type 2) (command_row group kind a)
    (cond (eqb item-type 3) (key_row group kind (span_of a b) (span_of c d))
    (Err ItemTypeUnknown)))

-- the item of row i
unfoldable pub item_of_row : List ℕ → ℕ → Result LogItem Reason
item_of_row words i =
    row_item (get_or words (i * 7) 0) (get_or words (i * 7 + 1) 0) (get_or words (i * 7 + 2) 0) (get_or words (i * 7 + 3) 0) (get_or words (i * 7 + 4) 0)
    (get_or words (i * 7 + 5) 0) (get_or words (i * 7 + 6) 0)

-- ---- from an item to words

-- type, kind, and what goes with it
unfoldable pub command_words : Command → List ℕ
command_words Clean = 2 ∷ 1 ∷ 0 ∷ 0 ∷ 0 ∷ 0 ∷ []
command_words (Compact i) = 2 ∷ 2 ∷ i ∷ 0 ∷ 0 ∷ 0 ∷ []

unfoldable pub key_words : Span → Op → List ℕ
key_words key (Put v) = 3 ∷ 1 ∷ key.at ∷ key.len ∷ v.at ∷ v.len ∷ []
key_words key Del = 3 ∷ 2 ∷ key.at ∷ key.len ∷ 0 ∷ 0 ∷ []

unfoldable pub content_words : LogItemContent → List ℕ
content_words (contents.EntryIndexes e) = 1 ∷ 0 ∷ e.count ∷ e.first_index ∷ 0 ∷ 0 ∷ []
content_words (contents.Command c) = command_words c
content_words (contents.Kv k) = key_words k.key k.op

unfoldable pub item_words : LogItem → List ℕ
item_words x = x.raft_group_id ∷ content_words x.content

-- index, offset, length
unfoldable pub entry_words : EntryIndex → List ℕ
entry_words r = r.index ∷ r.entry_offset ∷ r.entry_len ∷ []

-- one row after the other
abbrev pub items_words : List LogItem → List ℕ
items_words xs = flat_map item_words xs

abbrev pub entries_words : List EntryIndex → List ℕ
entries_words rows = flat_map entry_words rows
