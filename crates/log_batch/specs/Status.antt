-- Which items mark the status of an atomic group: a put whose key is the internal prefix followed by the single byte 01, with a content of one byte.
-- Assumes nothing.
use Rattle.std.specs.Prelude.{ℕ, zero, suc, Bool, cond, ◌&&◌, List, [], ◌∷◌, ◌++◌, length, ◌==◌, slice_index, Option, Some, None, Result, Ok, Err}
use Rattle.refusal.specs.First.{◌else◌, ◌>>◌, ◌>>=◌}
use Rattle.log_item.specs.Prefix.{prefix, begins, bytes_of}
use Rattle.log_item.specs.declared.Span.{Span}
use Rattle.log_item.specs.declared.Op.{Op}
use Rattle.log_item.specs.declared.Op.TheVariants.{Put, Del}
use Rattle.log_item.specs.declared.LogItemContent.{LogItemContent}
use Rattle.log_item.specs.declared.LogItemContent.TheVariants as contents
use Rattle.log_item.specs.Refusing.{op_inside}
use Rattle.refusal.specs.declared.Reason.{Reason}
use Rattle.refusal.specs.declared.Reason.TheVariants.{SpanOutside, StatusUnknown}
use Rattle.log_batch.specs.declared.AtomicGroupStatus.{AtomicGroupStatus}
use Rattle.log_batch.specs.declared.AtomicGroupStatus.TheVariants.{Begin, Middle, End}
use Rattle.log_batch.specs.declared.Mark.{Mark}

-- the prefix and the byte 01
abbrev pub mark_key : List ℕ
mark_key = prefix ++ (1 ∷ [])

abbrev pub is_mark : List ℕ → Span → Bool
is_mark s k = k.len == length mark_key && begins (bytes_of s k) mark_key

-- 0 begin, 1 middle, 2 end, else 28
abbrev pub status_byte : ℕ → Result AtomicGroupStatus Reason
status_byte zero = Ok Begin
status_byte (suc zero) = Ok Middle
status_byte (suc (suc zero)) = Ok End
status_byte (suc (suc (suc b))) = Err StatusUnknown

-- the mark of a group
unfoldable pub marked : ℕ → ℕ → Result (Option Mark) Reason
marked group b = do
  status ← status_byte b
  Ok (Some (record { id = group; status = status }))

unfoldable pub mark_of : ℕ → Span → Op → List ℕ → Result (Option Mark) Reason
mark_of group key (Put v) s = cond (is_mark s key && v.len == 1) (marked group (slice_index s v.at)) (Ok None)
mark_of group key Del s = Ok None

-- what an item of this group and content marks; a span outside the bytes is a 13, before 28
unfoldable pub status_of : ℕ → LogItemContent → List ℕ → Result (Option Mark) Reason
status_of group (contents.EntryIndexes e) s = Ok None
status_of group (contents.Command c) s = Ok None
status_of group (contents.Kv k) s = do
  op_inside s k.key k.op else Err SpanOutside
  mark_of group k.key k.op s
