-- The first i words are copied.
-- Assumes nothing.
use Rattle.location_rows.proofs.Copies.{Copied}
use Rattle.location_rows.proofs.WordsLayout.replace.Given as goal

abbrev pub invariant-loop-i : goal.invariant-loop-i
invariant-loop-i l = Copied l.initial.words l.incoming l.at l.with l.len l.i l.words
