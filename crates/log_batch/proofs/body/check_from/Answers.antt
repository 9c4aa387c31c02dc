-- `log_batch::body::check_from` meets its contract.
-- Assumes nothing.
use Rattle.log_batch.proofs.Checking.{left_next, left_refused, left_end}
use Rattle.log_batch.proofs.body.check_from.Goals as goal

pub loop-i-preserved : goal.loop-i-preserved
loop-i-preserved c = left_next _ _ c.loop-i.invariant c.loop-i-test.true c.in-Ok.ensures

pub returns-in-Err-Refused : goal.returns-in-Err-Refused
returns-in-Err-Refused c = rw (c.new.ensures, c.in-Err-Refused.field-0-is) (left_refused _ _ c.loop-i.invariant c.loop-i-test.true (rw c.in-Err-Refused.field-0-is at c.in-Err-Refused.ensures))

pub returns-in-Err-Padded : goal.returns-in-Err-Padded
returns-in-Err-Padded c = rw c.new-in-Err-Padded.ensures (left_refused _ _ c.loop-i.invariant c.loop-i-test.true (rw c.in-Err-Padded.field-0-is at c.in-Err-Padded.ensures))

pub returns : goal.returns
returns c = left_end _ _ c.loop-i.invariant c.loop-i-test.false
