-- `log_item::entries::skip_tails` meets its contract. The tails that are left come to what all of them do.
-- Assumes nothing.
use Prim.Native.Nat.{◌-◌}
use mathlib.Core.Path.{◌≡◌}
use Rattle.log_item.specs.Passing.{pass_tails}
use Rattle.log_item.proofs.entries.skip_tails.Given as goal

abbrev pub invariant-loop : goal.invariant-loop
invariant-loop l = pass_tails l.form l.buf (l.count - l.counter) l.last.value l.last.next ≡ pass_tails l.form l.buf l.count l.before l.at
