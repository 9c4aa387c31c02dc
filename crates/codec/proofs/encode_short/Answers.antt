-- `codec::encode_short` meets its contract: one byte by `encode_var_u64`, or two.
-- Assumes nothing.
use native.Mathlib.Omega.{arith}
use Rattle.codec.proofs.Writing.{two_short, two_bytes}
use Rattle.codec.proofs.encode_short.Goals as goal

pub returns-then-out-at : goal.returns-then-out-at
returns-then-out-at c = two_short _ _ _ (omega arith) (omega arith) (omega arith)

pub returns : goal.returns
returns c =
    let a = c.args in
    two_bytes a.n a.out.now a.at (omega arith) (omega arith) (omega arith)
