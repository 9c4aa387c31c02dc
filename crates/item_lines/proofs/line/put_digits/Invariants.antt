-- `item_lines::line::put_digits` meets its contract. The loop's invariant, `Puts`: the digits from i on stand there, and those of what is left come before them.
-- Assumes nothing.
use Rattle.item_lines.proofs.Digits.{Puts}
use Rattle.item_lines.proofs.line.put_digits.Given as goal

abbrev pub invariant-loop-left : goal.invariant-loop-left
invariant-loop-left l = Puts l.n l.digits l.i l.left

abbrev pub decreases-loop-left : goal.decreases-loop-left
decreases-loop-left l = l.left
