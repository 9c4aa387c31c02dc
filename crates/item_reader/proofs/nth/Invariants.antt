-- `item_reader::nth` meets its contract: the reader is where so many calls lead.
-- Assumes nothing.
use Rattle.std.proofs.Common.{◌≡◌}
use Rattle.item_reader.specs.Reader.{after_calls}
use Rattle.item_reader.proofs.nth.Given as goal

abbrev pub invariant-loop-i : goal.invariant-loop-i
invariant-loop-i l = l.reader ≡ after_calls l.initial.reader l._i
