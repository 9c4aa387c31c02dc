-- `log_batch::body::check_from` meets its contract. What its loop keeps, `ItemsLeft`: what is still to be read comes to what the whole comes to.
-- Assumes nothing.
use Rattle.log_batch.proofs.Checking.{ItemsLeft}
use Rattle.log_batch.proofs.body.check_from.Given as goal

abbrev pub invariant-loop-i : goal.invariant-loop-i
invariant-loop-i l = ItemsLeft l.form l.buf l.count l.start l.i l.at l.total l.used
