-- The bytes that a writer writes for an item: shortest numbers, keys and contents out of a store, tails worked out from the lengths of the rows.
-- Assumes nothing.
use Rattle.std.specs.Prelude.{ℕ, zero, suc, ◌+◌, List, [], ◌∷◌, ◌++◌}
use Rattle.codec.specs.Shortest.{shortest}
use Rattle.log_item.specs.Entries.{type_of}
use Rattle.log_item.specs.Prefix.{bytes_of}
use Rattle.log_item.specs.declared.Span.{Span}
use Rattle.log_item.specs.declared.Command.{Command}
use Rattle.log_item.specs.declared.Command.TheVariants.{Clean, Compact}
use Rattle.log_item.specs.declared.Op.{Op}
use Rattle.log_item.specs.declared.Op.TheVariants.{Put, Del}
use Rattle.log_item.specs.declared.LogItemContent.{LogItemContent}
use Rattle.log_item.specs.declared.LogItemContent.TheVariants as contents
use Rattle.log_item.specs.declared.LogItem.{LogItem}

-- a length, and as many bytes of the store
unfoldable pub span_bytes : List ℕ → Span → List ℕ
span_bytes s k = shortest k.len ++ bytes_of s k

-- 1 clean, or 2 compact and an index
unfoldable pub command_bytes : Command → List ℕ
command_bytes Clean = 1 ∷ []
command_bytes (Compact i) = 2 ∷ shortest i

-- op 1 (put: key, content) or op 2 (delete: key)
unfoldable pub op_bytes : List ℕ → Span → Op → List ℕ
op_bytes s key (Put v) = 1 ∷ (span_bytes s key ++ span_bytes s v)
op_bytes s key Del = 2 ∷ span_bytes s key

-- count n; if n > 0 the first index
unfoldable pub entries_bytes : ℕ → ℕ → List ℕ
entries_bytes zero i = shortest 0
entries_bytes (suc n) i = shortest (suc n) ++ shortest i

unfoldable pub content_bytes : List ℕ → LogItemContent → List ℕ
content_bytes s (contents.EntryIndexes e) = entries_bytes e.count e.first_index
content_bytes s (contents.Command c) = command_bytes c
content_bytes s (contents.Kv k) = op_bytes s k.key k.op

-- an item up to its tails: group number, type byte, content
unfoldable pub head_bytes : List ℕ → LogItem → List ℕ
head_bytes s x = shortest x.raft_group_id ++ (type_of x.content ∷ content_bytes s x.content)

-- a tail for each length, the total running on
unfoldable pub tails_bytes : List ℕ → ℕ → List ℕ
tails_bytes [] t = []
tails_bytes (n ∷ lengths) t = shortest (t + n) ++ tails_bytes lengths (t + n)
