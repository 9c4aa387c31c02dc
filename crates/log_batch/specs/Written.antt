-- What the whole-batch writer answers, and what it leaves in the buffer: header, block, body.
-- Assumes nothing.
use Rattle.std.specs.Prelude.{◌≡◌, ℕ, ◌+◌, Bool, List, ◌++◌, length, Result}
use Rattle.list_writer.specs.declared.Measured.{Measured}
use Rattle.list_writer.specs.Answers.{measure_of, laid}
use Rattle.refusal.specs.declared.Refusal.{Refusal}
use Rattle.list_writer.specs.Bytes.{body_bytes}
use Rattle.log_batch.specs.Front.{body_offset, front_bytes, batch_encoded}
use Rattle.log_batch.specs.Writing.{listed, table_lengths}
use Rattle.log_batch.specs.declared.LogBatch.{LogBatch}
use Rattle.log_batch.specs.declared.LogItemBatch.{LogItemBatch}

-- header, block, body
unfoldable pub framed : List ℕ → List ℕ → List ℕ
framed content body = front_bytes (body_offset content + length body) content ++ body

-- what its header states
abbrev pub frame_of : List ℕ → List ℕ → LogBatch
frame_of content body = record {
  offset = body_offset content;
  len = body_offset content + length body;
  compression = 0;
}

-- the answer r to a measured body of so many items, and the later contents of out: the batch, then what stood there; out as it was where
-- nothing is written
pub record BatchWritten (m : Result Measured Refusal) (items : ℕ) (content body out : List ℕ) (r : Result ℕ Refusal) (later : List ℕ) : Type 0 where
  pub answer : r ≡ batch_encoded m items content (length out)
  pub written : later ≡ laid r out 0 (framed content body)

-- the same of a table's items
abbrev pub TableWritten : Bool → LogItemBatch → List ℕ → List ℕ → ℕ → List ℕ → Result ℕ Refusal → List ℕ → Type 0
TableWritten checked t store content signature out r later =
    BatchWritten (measure_of store checked (listed t) (table_lengths t)) t.item_count content (body_bytes store (listed t) (table_lengths t) signature) out r later
