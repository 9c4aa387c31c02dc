-- `words::write_bytes` meets its contract.
-- Assumes nothing.
use native.Mathlib.Omega.{arith}
use mathlib.Core.Path.{refl}
use Rattle.words.proofs.Writing.{copies_done, room_for}
use Rattle.words.proofs.write_bytes.Goals as goal

pub returns : goal.returns
returns c = let a = c.args in room_for a.out.now a.at a.src.now _ _ (omega arith) (copies_done c.loop-i.invariant c.loop-i-test.false, refl)
