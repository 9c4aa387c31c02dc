-- The loop of `crc::next`: the bits that are left lead to what all eight lead to.
-- Assumes nothing.
use Rattle.std.proofs.Common.{◌≡◌, ◌-◌}
use Rattle.std.specs.Int.Bits.{bit_xor}
use Rattle.crc.specs.Crc.{steps}
use Rattle.crc.proofs.next.Given as goal

abbrev pub invariant-loop : goal.invariant-loop
invariant-loop l = steps (8 - l.counter) l.r ≡ steps 8 (bit_xor l.old l.b)
