-- The loop of `crc::crc32`: the bytes that are left lead to the register that all lead to.
-- Assumes nothing.
use Rattle.std.proofs.Common.{◌≡◌, drop}
use Rattle.crc.specs.Crc.{feed}
use Rattle.crc.proofs.crc32.Given as goal

abbrev pub invariant-loop-b : goal.invariant-loop-b
invariant-loop-b l = feed l.r (drop l.b-index l.data) ≡ feed 0xFFFF_FFFF l.data
