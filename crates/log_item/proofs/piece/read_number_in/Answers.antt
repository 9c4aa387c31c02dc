-- `log_item::piece::read_number_in` meets its contract.
-- Assumes nothing.
use mathlib.Core.Path.{sym}
use native.Mathlib.Omega.{arith}
use Rattle.log_item.specs.declared.Form.TheVariants.{Any}
use Rattle.log_item.proofs.NumberGot.{number_inside}
use Rattle.log_item.proofs.Pieces.{number_plain, number_padded}
use Rattle.log_item.proofs.piece.read_number_in.Goals as goal

pub overflow_sub-n : goal.overflow_sub-n
overflow_sub-n c = omega (arith, number_inside Any _ _ (sym c.in_ok-n.ensures))

pub returns-then-n-at : goal.returns-then-n-at
returns-then-n-at c = number_padded _ _ (sym c.in_ok-n.ensures) c.in-Plain.is c.var_u64_len.ensures c.if-n-at.true

pub returns-else-n-at : goal.returns-else-n-at
returns-else-n-at c = number_plain _ _ (sym c.in_ok-n.ensures) c.in-Plain.is c.var_u64_len.ensures c.if-n-at.false
