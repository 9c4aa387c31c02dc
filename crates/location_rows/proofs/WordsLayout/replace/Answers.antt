-- A word more is copied: the rows lie in the words, and so do their words.
-- Assumes nothing.
use Rattle.std.proofs.Common.{◌+◌, arith}
use Rattle.location_rows.proofs.Rows.{rows_room}
use Rattle.location_rows.proofs.Copies.{copied_next}
use Rattle.location_rows.proofs.WordsLayout.replace.Goals as goal

pub loop-i-preserved : goal.loop-i-preserved
loop-i-preserved c =
    let a = c.args in
    let there = rows_room a.words.now (a.start + a.k) (omega (arith, c.count-n.ensures, c.if-start-n.true, c.if-k-n.true)) in
    let lent = rows_room a.incoming.now (a.from + a.k) (omega (arith, c.count-m.ensures, c.if-from-m.true, c.if-k-m.true)) in
    copied_next c.loop-i.invariant (omega (arith, there), omega (arith, lent)) c.loop-i-test.true
