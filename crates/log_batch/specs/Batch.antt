-- What reading a whole batch under a signature answers: header, 18, 19, block, body, 20. Bytes past the length are not looked at.
-- Assumes nothing.
use Rattle.std.specs.Prelude.{ℕ, ◌-◌, List, length, take, drop, ◌==◌, nat_le, Some, Ok, Err}
use Rattle.refusal.specs.First.{Checked}
use Rattle.log_item.specs.Got.{Got, got, refused, Reading, done, refuse, ◌>>=◌, ◌>>◌, ◌else◌}
use Rattle.log_item.specs.declared.Span.{Span}
use Rattle.log_batch.specs.declared.LogItemBatch.{LogItemBatch}
use Rattle.log_batch.specs.Reading.{Answer, rejected}
use Rattle.log_batch.specs.Body.{read_body}
use Rattle.log_batch.specs.Total.{agreeing}
use Rattle.log_batch.specs.Seal.{block_check, sealed_length}
use Rattle.log_batch.specs.Table.{table_of}
use Rattle.log_batch.specs.declared.LogBatch.{LogBatch}
use Rattle.log_batch.specs.Header.{header}
use Rattle.refusal.specs.declared.Reason.{Reason}
use Rattle.refusal.specs.declared.Reason.TheVariants.{BatchShort, Compressed}

-- the block, from byte 16 to the offset, and the body, from there to the length
abbrev pub block_of : LogBatch → List ℕ → List ℕ
block_of h s = take (h.offset - 16) (drop 16 s)

abbrev pub body_of : LogBatch → List ℕ → List ℕ
body_of h s = take (h.len - h.offset) (drop h.offset s)

-- a check between two readings
abbrev pub passing : Checked Reason → Reading (Unit {0})
passing (Ok u) = done u
passing (Err r) = refuse r

-- header, 18, 19, block: the frame of a batch
unfoldable pub front_batch : List ℕ → Reading LogBatch
front_batch s = do
  h ← header s
  nat_le h.len (length s) else BatchShort
  (h.compression == 0) else Compressed
  u ← passing (block_check (block_of h s))
  done h

-- then the body, read as it is by itself, and 20 where its entries do not come to the block's content
abbrev pub batch_answer : List ℕ → ℕ → Got LogBatch → Answer
batch_answer s signature (got h q) = agreeing (Some (sealed_length (block_of h s))) (read_body (body_of h s) signature)
batch_answer s signature (refused r) = rejected r 0

-- where body and block stand
abbrev pub body_place : Got LogBatch → Span
body_place (got h q) = record { at = h.offset; len = h.len - h.offset }
body_place (refused r) = record { at = 0; len = 0 }

abbrev pub block_place : Got LogBatch → Span
block_place (got h q) = record { at = 16; len = h.offset - 16 }
block_place (refused r) = record { at = 0; len = 0 }

-- the table of the whole
unfoldable pub read_batch : List ℕ → ℕ → LogItemBatch
read_batch s signature = let g = front_batch s 0 in table_of (body_place g) (block_place g) (batch_answer s signature g)
