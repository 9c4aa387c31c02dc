-- `codec::encode_long` meets its contract. The loop's invariant: there is room, and, by `Writes`, what is left of the number still has to be stored.
-- Assumes nothing.
use Prim.Native.Nat.{◌+◌, ◌≤◌}
use lib.ListN.{length}
use Rattle.codec.specs.Shortest.{shortest}
use Rattle.codec.proofs.Writing.{Writes}
use Rattle.codec.proofs.encode_long.Given as goal

abbrev pub invariant-loop-left : goal.invariant-loop-left
invariant-loop-left l = (l.at + length (shortest l.n) ≤ length l.initial.out) × Writes l.n l.initial.out l.at l.out l.left l.i

abbrev pub decreases-loop-left : goal.decreases-loop-left
decreases-loop-left l = l.left
