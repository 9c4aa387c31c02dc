-- The reply for each answer of the crates below: a refusal has its number, and 0 in each word but the item's.
-- Assumes nothing.
use Rattle.std.specs.Prelude.{ℕ, ◌≡◌, Bool, true, false, Option, Some, None, Result, Ok, Err, cond, List, [], ◌∷◌, leb, eqb, get_or}
use Rattle.refusal.specs.First.{◌else◌, ◌>>◌, ◌>>=◌, Checked}
use Rattle.refusal.specs.Number.{number_of}
use Rattle.refusal.specs.declared.Reason.{Reason}
use Rattle.refusal.specs.declared.Reason.TheVariants.{TableBroken}
use Rattle.refusal.specs.declared.Refusal.{Refusal}
use Rattle.log_item.specs.Got.{Got, got, refused}
use Rattle.log_item.specs.declared.LogItem.{LogItem}
use Rattle.log_batch.specs.declared.BodyCheck.{BodyCheck}
use Rattle.log_batch.specs.declared.LogBatch.{LogBatch}
use Rattle.log_batch.specs.declared.AtomicGroupStatus.{AtomicGroupStatus}
use Rattle.log_batch.specs.declared.AtomicGroupStatus.TheVariants.{Begin, Middle, End}
use Rattle.log_batch.specs.declared.Mark.{Mark}
use Rattle.log_batch.specs.Status.{status_of}
use Rattle.log_batch.specs.View.{entry_check}
use Rattle.batch_rows.specs.declared.BatchCheck.{BatchCheck}
use Rattle.item_row.specs.Reply.{Reply, reply}

-- r replies an answer that keeps the promise of the function below
pub record Replied {A : Type 0} (Promised : A → Type 0) (replyOf : A → Reply) (r : Reply) : Type 0 where
  pub answer : A
  pub promised : Promised answer
  pub replied : r ≡ replyOf answer

-- the number, the place after it
abbrev pub number_reply : Got ℕ → Reply
number_reply (got n next) = reply 0 (n ∷ next ∷ [])
number_reply (refused r) = reply (number_of r) (0 ∷ 0 ∷ [])

-- the place after what was written
abbrev pub wrote_reply : Option ℕ → Reply
wrote_reply (Some next) = reply 0 (next ∷ [])
wrote_reply None = reply 21 (0 ∷ [])

-- offset, length, compression type
abbrev pub header_reply : Got LogBatch → Reply
header_reply (got h q) = reply 0 (h.offset ∷ h.len ∷ h.compression ∷ [])
header_reply (refused r) = reply (number_of r) (0 ∷ 0 ∷ 0 ∷ [])

-- item of a refusal, items, entries, entry total, place after the last item
abbrev pub check_reply : Result BodyCheck Refusal → Reply
check_reply (Ok c) = reply 0 (0 ∷ c.items ∷ c.entries ∷ c.total ∷ c.next ∷ [])
check_reply (Err r) = reply r.number (r.item ∷ 0 ∷ 0 ∷ 0 ∷ 0 ∷ [])

-- as for a body, and place and length of the body and of the block
abbrev pub batch_reply : Result BatchCheck Refusal → Reply
batch_reply (Ok b) = reply 0 (0 ∷ b.check.items ∷ b.check.entries ∷ b.check.total ∷ b.check.next ∷ b.body.at ∷ b.body.len ∷ b.block.at ∷ b.block.len ∷ [])
batch_reply (Err r) = reply r.number (r.item ∷ 0 ∷ 0 ∷ 0 ∷ 0 ∷ 0 ∷ 0 ∷ 0 ∷ 0 ∷ [])

-- item of a refusal, 1 yes or 0 no
abbrev pub plain_reply : Result Bool Refusal → Reply
plain_reply (Ok true) = reply 0 (0 ∷ 1 ∷ [])
plain_reply (Ok false) = reply 0 (0 ∷ 0 ∷ [])
plain_reply (Err r) = reply r.number (r.item ∷ 0 ∷ [])

-- the check of an entry against the block that the queue names; a queue above 1 names none
unfoldable pub queue_check : ℕ → ℕ → ℕ → ℕ → List ℕ → List ℕ → Checked Reason
queue_check queue long offset len append rewrite = do
  leb queue 1 else Err TableBroken
  entry_check long offset len (cond (eqb queue 0) append rewrite)

-- place, length
abbrev pub view_reply : Checked Reason → ℕ → ℕ → Reply
view_reply (Ok u) offset len = reply 0 (offset ∷ len ∷ [])
view_reply (Err r) offset len = reply (number_of r) (0 ∷ 0 ∷ [])

-- the same of a location row
unfoldable pub view_of : List ℕ → List ℕ → List ℕ → Reply
view_of row append rewrite =
    view_reply (queue_check (get_or row 0 0) (get_or row 3 0) (get_or row 4 0) (get_or row 5 0) append rewrite) (get_or row 4 0) (get_or row 5 0)

-- 01's status byte plus 1, since 0 is no mark: 1 begin, 2 middle, 3 end
abbrev pub mark_word : AtomicGroupStatus → ℕ
mark_word Begin = 1
mark_word Middle = 2
mark_word End = 3

-- the mark and its group; 0 and 0 where there is none
abbrev pub status_reply : Result (Option Mark) Reason → Reply
status_reply (Ok (Some m)) = reply 0 (mark_word m.status ∷ m.id ∷ [])
status_reply (Ok None) = reply 0 (0 ∷ 0 ∷ [])
status_reply (Err r) = reply (number_of r) (0 ∷ 0 ∷ [])

-- what the item of a row marks; a row that is no item has its refusal
abbrev pub row_mark : Result LogItem Reason → List ℕ → Result (Option Mark) Reason
row_mark row store = do
  x ← row
  status_of x.raft_group_id x.content store

unfoldable pub row_status : Result LogItem Reason → List ℕ → Reply
row_status row store = status_reply (row_mark row store)

-- a written body or batch: item of a refusal, length
abbrev pub written_reply : Result ℕ Refusal → Reply
written_reply (Ok n) = reply 0 (0 ∷ n ∷ [])
written_reply (Err r) = reply r.number (r.item ∷ 0 ∷ [])
