-- What reading a whole batch into lent rows comes to, where its front is right.
-- Assumes nothing.
use Rattle.std.proofs.Common.{◌≡◌, ℕ, ◌-◌, List, Some, Result}
use Rattle.refusal.specs.declared.Refusal.{Refusal}
use Rattle.log_item.specs.Got.{got}
use Rattle.log_batch.specs.declared.BodyCheck.{BodyCheck}
use Rattle.log_batch.specs.declared.LogBatch.{LogBatch}
use Rattle.log_batch.specs.Body.{read_body}
use Rattle.log_batch.specs.Total.{agreeing}
use Rattle.log_batch.specs.Batch.{front_batch, body_of}
use Rattle.log_batch.proofs.Frames.{content_known}
use Rattle.rows_reader.specs.Lent.{RowsRead}
use Rattle.batch_rows.specs.declared.BatchCheck.{BatchCheck}
use Rattle.batch_rows.specs.Rows.{with_places, BatchReadInto}

-- The body's reading is that of the batch, and its places stand beside it.
pub rows_read : (s : List ℕ) (signature : ℕ) (items entries : List ℕ) {h : LogBatch} {q n : ℕ} {c : Result BodyCheck Refusal} {r : Result BatchCheck Refusal}
    {later more : List ℕ} → front_batch s 0 ≡ got h q → n ≡ h.offset - 16 - 4 → RowsRead (agreeing (Some n) (read_body (body_of h s) signature)) items entries c later more
    → r ≡ with_places (got h q) c → BatchReadInto s signature items entries r later more
rows_read s signature items entries e k w f = rw f (record { answer = rw (e, content_known s e, ← k, w.answer); rows = rw (e, content_known s e, ← k) w.rows })
