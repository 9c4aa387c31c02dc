-- What reading a body under a signature answers.
-- Assumes nothing.
use Rattle.std.specs.Prelude.{ℕ, List, Ok, Err}
use Rattle.refusal.specs.First.{Checked}
use Rattle.refusal.specs.declared.Reason.{Reason}
use Rattle.log_item.specs.declared.Form.TheVariants.{Any}
use Rattle.log_batch.specs.Reading.{Answer, rejected, read_items}
use Rattle.log_batch.specs.Seal.{sealed_part, seal_check}

-- where a check holds, the answer; else its refusal, outside items
abbrev pub unless : Checked Reason → Answer → Answer
unless (Ok u) a = a
unless (Err r) a = rejected r 0

-- 5, 6, then what stands before the footer
unfoldable pub read_body : List ℕ → ℕ → Answer
read_body body signature = unless (seal_check body signature) (read_items Any (sealed_part body))
