-- Reading a body or a batch into lent rows and measuring one from them refuse for a reason alone.
-- Assumes nothing.
use Rattle.std.proofs.Common.{ℕ, Bool, List, Result}
use Rattle.refusal.specs.declared.Refusal.{Refusal}
use Rattle.refusal.proofs.Reasons.{ForReasons, done_for, then_for}
use Rattle.list_writer.proofs.Reasons.{rows_for}
use Rattle.log_batch.specs.declared.BodyCheck.{BodyCheck}
use Rattle.log_batch.specs.Reading.{Answer}
use Rattle.log_batch.proofs.Reasons.{check_for}
use Rattle.rows_reader.specs.Lent.{RowsRead}
use Rattle.rows_writer.specs.Rows.{measure_rows}
use Rattle.batch_rows.specs.declared.BatchCheck.{BatchCheck}
use Rattle.batch_rows.specs.Rows.{BatchReadInto}

pub rows_read_for : (a : Answer) (items entries : List ℕ) (r : Result BodyCheck Refusal) (later more : List ℕ)
    → RowsRead a items entries r later more → ForReasons r
rows_read_for a items entries r later more w = rw w.answer (check_for _)

pub batch_read_for : (s : List ℕ) (signature : ℕ) (items entries : List ℕ) (r : Result BatchCheck Refusal) (later more : List ℕ)
    → BatchReadInto s signature items entries r later more → ForReasons r
batch_read_for s signature items entries r later more w = rw w.answer (then_for _ (check_for _) (λ held. done_for _))

pub measure_rows_for : (s : List ℕ) (checked : Bool) (items entries : List ℕ) → ForReasons (measure_rows s checked items entries)
unfolding measure_rows
measure_rows_for s checked items entries = rows_for _ _ _ _
