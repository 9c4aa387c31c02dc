-- The loop of `line::value`: the number so far is what the digits passed spell, below 2 ^ 64.
-- Assumes nothing.
use Rattle.std.proofs.Common.{◌≡◌, ◌%◌, ◌^◌, take}
use Rattle.line.specs.Hex.{hex_number}
use Rattle.line.proofs.value.Given as goal

abbrev pub invariant-loop-d : goal.invariant-loop-d
invariant-loop-d l = l.n ≡ hex_number (take l.d-index l.digits) % 2 ^ 64
