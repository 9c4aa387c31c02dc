-- `log_item::entries::skip_tails` meets its contract. A tail that is refused ends the way over all of them.
-- Assumes nothing.
use mathlib.Core.Path.{sym, ◌∙◌}
use native.Mathlib.Omega.{arith}
use Rattle.std.proofs.Common.{rules}
use Rattle.log_item.proofs.Counted.{pass_stop}
use Rattle.log_item.proofs.entries.skip_tails.Goals as goal

pub returns-in_err-last : goal.returns-in_err-last
returns-in_err-last c =
    let e = pass_stop _ _ _ _ _ (omega arith) (sym c.in_err-last.ensures) ∙ c.loop.invariant in
    search rules
