-- The loop of `log_item::writing::put_tails`.
-- Assumes nothing.
use Rattle.log_item.proofs.Tails.{Putting}
use Rattle.log_item.proofs.writing.put_tails.Given as goal

abbrev pub invariant-loop-len : goal.invariant-loop-len
invariant-loop-len l = Putting l.lengths l.before l.initial.out l.start l.out l.total l.at l.len-index
