-- What reading a whole batch into lent rows answers, and what the rows hold afterwards.
-- Assumes nothing.
use Rattle.std.specs.Prelude.{ℕ, ◌≡◌, List, Result, Ok}
use Rattle.refusal.specs.First.{◌>>=◌}
use Rattle.refusal.specs.declared.Refusal.{Refusal}
use Rattle.log_item.specs.Got.{Got}
use Rattle.log_batch.specs.declared.BodyCheck.{BodyCheck}
use Rattle.log_batch.specs.declared.LogBatch.{LogBatch}
use Rattle.log_batch.specs.Reading.{Answer}
use Rattle.log_batch.specs.Answers.{check_of}
use Rattle.log_batch.specs.Batch.{front_batch, batch_answer, body_place, block_place}
use Rattle.rows_reader.specs.Lent.{fitting, Filled}
use Rattle.batch_rows.specs.declared.BatchCheck.{BatchCheck}

-- how much a batch holds, with the places of its body and its block
abbrev pub with_places : Got LogBatch → Result BodyCheck Refusal → Result BatchCheck Refusal
with_places g check = do
  held ← check
  Ok (record { check = held; body = body_place g; block = block_place g })

-- the answer to a whole batch that is read into lent rows
abbrev pub rows_answer : List ℕ → ℕ → List ℕ → List ℕ → Answer
rows_answer s signature items entries = fitting items entries (batch_answer s signature (front_batch s 0))

-- the answer r, and the later contents of the rows that are lent
pub record BatchReadInto (s : List ℕ) (signature : ℕ) (items entries : List ℕ) (r : Result BatchCheck Refusal) (later more : List ℕ) : Type 0 where
  pub answer : r ≡ with_places (front_batch s 0) (check_of (rows_answer s signature items entries))
  pub rows : Filled (rows_answer s signature items entries) items entries later more
