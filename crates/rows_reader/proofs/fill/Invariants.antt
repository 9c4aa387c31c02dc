-- `rows_reader::fill` meets its contract. What its loops keep: what is stored and what is still to come are the whole answer.
-- Assumes nothing.
use Rattle.std.proofs.Common.{◌+◌, ◌-◌}
use Rattle.rows_reader.proofs.Storing.{Storing}
use Rattle.rows_reader.proofs.fill.Given as goal

abbrev pub invariant-loop : goal.invariant-loop
invariant-loop l = Storing l.buf l.fn.items l.fn.entries l.i-end l.items l.entries (l.i + 1) l.j l.at l.total (l.end - l.counter) l.index

abbrev pub invariant-loop-i : goal.invariant-loop-i
invariant-loop-i l = Storing l.buf l.fn.items l.fn.entries l.i-end l.items l.entries l.i l.j l.at l.total 0 0
