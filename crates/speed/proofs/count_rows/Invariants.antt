-- `speed::count_rows` meets its contract: each row that is read is one of those that are left.
-- Assumes nothing.
use Rattle.log_batch.specs.Seal.{sealed_part}
use Rattle.speed.proofs.Counting.{Counted}
use Rattle.speed.proofs.count_rows.Given as goal

abbrev pub invariant-loop-next : goal.invariant-loop-next
invariant-loop-next l = Counted (sealed_part l.body) l.initial.rest l.rest l.n

abbrev pub decreases-loop-next : goal.decreases-loop-next
decreases-loop-next l = l.rest.left
