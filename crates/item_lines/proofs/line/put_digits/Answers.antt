-- `item_lines::line::put_digits` meets its contract.
-- Assumes nothing.
use native.Mathlib.Omega.{arith}
use Rattle.item_lines.proofs.Digits.{puts_start, puts_more, puts_end}
use Rattle.item_lines.proofs.line.put_digits.Goals as goal

pub loop-left-init : goal.loop-left-init
loop-left-init c = puts_start _ _ (omega arith) c.told-digits

pub loop-left-preserved : goal.loop-left-preserved
loop-left-preserved c = puts_more _ c.loop-left.invariant c.loop-left-test.true

pub returns-clause-digits : goal.returns-clause-digits
returns-clause-digits c = puts_end c.loop-left.invariant c.loop-left-test.false
