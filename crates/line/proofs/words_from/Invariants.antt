-- The loop of `line::words_from`: what stands from word k on stands from a place on, behind so many words.
-- Assumes nothing.
use Rattle.line.proofs.Places.{From}
use Rattle.line.proofs.words_from.Given as goal

abbrev pub invariant-loop : goal.invariant-loop
invariant-loop l = From l.line l.k l.at l.counter
