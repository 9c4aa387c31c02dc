-- The run that is looked for goes on from i.
-- Assumes nothing.
use Rattle.std.proofs.Common.{◌≡◌, ◌+◌}
use Rattle.location_rows.proofs.Scans.{run_from}
use Rattle.location_rows.proofs.WordsLayout.scan.Given as goal

abbrev pub invariant-loop-i : goal.invariant-loop-i
invariant-loop-i l = l.lo + run_from l.words l.stop l.hi l.lo ≡ l.i + run_from l.words l.stop l.hi l.i
