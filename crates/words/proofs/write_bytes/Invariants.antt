-- The loop of `words::write_bytes`, `Copies`: what is left of src still has to be stored.
-- Assumes nothing.
use Rattle.words.proofs.Writing.{Copies}
use Rattle.words.proofs.write_bytes.Given as goal

abbrev pub invariant-loop-i : goal.invariant-loop-i
invariant-loop-i l = Copies l.src l.initial.out l.at l.out l.i
