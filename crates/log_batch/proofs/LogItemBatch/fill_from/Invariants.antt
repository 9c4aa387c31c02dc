-- `log_batch::LogItemBatch::fill_from` meets its contract. What its loops keep: what is in the tables and what is still to come are the whole
-- answer.
-- Assumes nothing.
use Rattle.std.proofs.Common.{◌≡◌, ◌+◌, ◌-◌, None}
use Rattle.log_batch.proofs.Filling.{Filling}
use Rattle.log_batch.proofs.LogItemBatch.fill_from.Given as goal

abbrev pub invariant-loop : goal.invariant-loop
invariant-loop l =
    (l.t.block ≡ record { at = 0; len = 0 }) × (l.t.refusal ≡ None) × Filling l.buf l.many l.t.items l.t.entries (l.i + 1) l.rows l.at l.total (l.end - l.counter) l.index

abbrev pub invariant-loop-i : goal.invariant-loop-i
invariant-loop-i l =
    (l.t.block ≡ record { at = 0; len = 0 }) × (l.t.refusal ≡ None) × Filling l.buf l.many l.t.items l.t.entries l.i l.rows l.at l.total 0 0
