-- Why a writer refuses an item, but for 16: the checks in the order of document 01, each with its reason.
-- Assumes nothing.
use Rattle.std.specs.Prelude.{ℕ, zero, suc, ◌+◌, ◌-◌, Bool, true, not, ◌&&◌, Err, List, leb}
use Rattle.refusal.specs.First.{◌else◌, ◌>>◌, Checked, fine}
use Rattle.log_item.specs.Prefix.{prefix, begins, bytes_of, inside}
use Rattle.log_item.specs.declared.Span.{Span}
use Rattle.log_item.specs.declared.Op.{Op}
use Rattle.log_item.specs.declared.Op.TheVariants.{Put, Del}
use Rattle.log_item.specs.declared.EntryIndexes.{EntryIndexes}
use Rattle.log_item.specs.declared.LogItemContent.{LogItemContent}
use Rattle.log_item.specs.declared.LogItemContent.TheVariants as contents
use Rattle.refusal.specs.declared.Reason.{Reason}
use Rattle.refusal.specs.declared.Reason.TheVariants.{EntriesTooMany, IndexTooLarge, KeyInternal, SpanOutside}

-- 17 where n > 0 and the index i + n - 1, that of the last, is above 2^64 - 1
abbrev pub index_refusal : ℕ → ℕ → Checked Reason
index_refusal zero i = fine
index_refusal (suc n) i = do
  leb (i + n) 18446744073709551615 else Err IndexTooLarge
  fine

-- 14, 13, 17: items before use `used` of the `rows` that are lent, and this one needs as many as it counts
unfoldable pub entries_refusal : ℕ → ℕ → EntryIndexes → Checked Reason
entries_refusal used rows e = do
  leb (used + e.count) 1024 else Err EntriesTooMany
  leb e.count (rows - used) else Err SpanOutside
  index_refusal e.count e.first_index

-- the spans of a key lie in the store
abbrev pub op_inside : List ℕ → Span → Op → Bool
op_inside s key (Put v) = inside s key && inside s v
op_inside s key Del = inside s key

-- 23 for a put where keys are looked at
abbrev pub internal_refusal : List ℕ → Bool → Span → Op → Checked Reason
internal_refusal s checked key (Put v) = do
  not (checked && begins (bytes_of s key) prefix) else Err KeyInternal
  fine
internal_refusal s checked key Del = fine

unfoldable pub key_refusal : List ℕ → Bool → Span → Op → Checked Reason
key_refusal s checked key op = do
  op_inside s key op else Err SpanOutside
  internal_refusal s checked key op

unfoldable pub content_refusal : List ℕ → Bool → ℕ → ℕ → LogItemContent → Checked Reason
content_refusal s checked used rows (contents.EntryIndexes e) = entries_refusal used rows e
content_refusal s checked used rows (contents.Command c) = fine
content_refusal s checked used rows (contents.Kv k) = key_refusal s checked k.key k.op

-- the spans of a content lie in the store
abbrev pub content_inside : List ℕ → LogItemContent → Bool
content_inside s (contents.EntryIndexes e) = true
content_inside s (contents.Command c) = true
content_inside s (contents.Kv k) = op_inside s k.key k.op
