-- `codec::encode_var_u64_unrolled` meets its contract. The loop's invariant: there is room for ten bytes, and, by `Writes`, what is left of the number still has to be stored.
-- Assumes nothing.
use Prim.Native.Nat.{◌+◌, ◌-◌, ◌≤◌}
use lib.ListN.{length}
use Rattle.codec.proofs.Writing.{Writes}
use Rattle.codec.proofs.encode_var_u64_unrolled.Given as goal

abbrev pub invariant-loop-j : goal.invariant-loop-j
invariant-loop-j l = (l.at + 10 ≤ length l.initial.out) × (l.j ≤ 9) × Writes l.n l.initial.out l.at l.out l.left (l.at + l.j)

abbrev pub decreases-loop-j : goal.decreases-loop-j
decreases-loop-j l = 9 - l.j
