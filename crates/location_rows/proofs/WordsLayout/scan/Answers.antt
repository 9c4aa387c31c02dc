-- A row that stops the run ends it; one that does not is part of it; and it ends where the rows before hi do.
-- Assumes nothing.
use Rattle.std.proofs.Common.{arith, add-one}
use Rattle.location_rows.proofs.Scans.{run_within, run_stops, run_passes}
use Rattle.location_rows.proofs.WordsLayout.scan.Goals as goal

pub returns-then-stops : goal.returns-then-stops
returns-then-stops c = omega (arith, c.loop-i.invariant, run_stops _ _ _ c.count.ensures c.min-end.ensures _ c.loop-i-test.true c.stops.ensures c.if-stops.true)

pub loop-i-preserved : goal.loop-i-preserved
loop-i-preserved c = rw add-one (omega (arith, c.loop-i.invariant, run_passes _ _ _ c.count.ensures c.min-end.ensures _ c.loop-i-test.true c.stops.ensures c.if-stops.false))

pub returns : goal.returns
returns c =
    let within = run_within c.args.words.now c.args.stop c.args.hi c.count.ensures c.min-end.ensures in
    omega (arith, c.loop-i.invariant, within c.args.lo, within c.loop-i.i)
