-- The loop of `line::bytes`: the bytes so far stand in front of what was there.
-- Assumes nothing.
use Rattle.std.proofs.Common.{◌≡◌, ◌++◌, take, drop}
use Rattle.line.specs.Hex.{hex_bytes}
use Rattle.line.proofs.bytes.Given as goal

abbrev pub invariant-loop-i : goal.invariant-loop-i
invariant-loop-i l = l.out ≡ take l.i (hex_bytes l.digits) ++ drop l.i l.initial.out
