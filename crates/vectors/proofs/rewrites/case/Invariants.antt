-- `vectors::rewrites::case` is safe and ends.
-- Assumes nothing.
use Prim.Native.Nat.{◌-◌}
use Rattle.vectors.proofs.rewrites.case.Given as goal

abbrev pub decreases-loop-k : goal.decreases-loop-k
decreases-loop-k g l = 32 - l.k
