-- `speed::speed_steps` meets its contract: each item that a step hands out is one of those that are left.
-- Assumes nothing.
use Prim.Native.Nat.{◌-◌}
use Rattle.log_batch.specs.Body.{read_body}
use Rattle.speed.proofs.Counting.{Along}
use Rattle.speed.proofs.speed_steps.Given as goal

abbrev pub invariant-loop-found : goal.invariant-loop-found
invariant-loop-found l = Along l.body l.cursor l.items l.entries (read_body l.body l.signature)

abbrev pub decreases-loop-found : goal.decreases-loop-found
decreases-loop-found l = 256 - l.items
