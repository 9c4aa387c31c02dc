-- `replay::cases::lines` is safe and ends.
-- Assumes nothing.
use Rattle.std.proofs.Common.{◌-◌, length}
use Rattle.replay.proofs.cases.lines.Given as goal

abbrev pub decreases-loop-at : goal.decreases-loop-at
decreases-loop-at g l = length l.text - l.at
