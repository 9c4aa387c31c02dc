-- `codec::decode_up_to` meets its contract. The loop's invariant: j bytes are read, their number is below 2 ^ (7 * j), and the whole answer is that number below what is left to read.
-- Assumes nothing.
use Prim.Native.Nat.{◌-◌, ◌*◌, ◌^◌, ◌≤◌, ◌<◌}
use mathlib.Core.Path.{◌≡◌}
use Rattle.codec.specs.Number.{read_number}
use Rattle.codec.specs.Private.{onto, left_after}
use Rattle.codec.proofs.decode_up_to.Given as goal

abbrev pub invariant-loop-j : goal.invariant-loop-j
invariant-loop-j l =
    (1 ≤ l.j) × (l.j ≤ l.end) × (l.value < 2 ^ (7 * l.j)) × (read_number l.buf l.at ≡ onto l.value (7 * l.j) (left_after l.buf l.at l.j))

abbrev pub decreases-loop-j : goal.decreases-loop-j
decreases-loop-j l = l.end - l.j
