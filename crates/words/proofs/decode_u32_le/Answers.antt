-- `words::decode_u32_le` meets its contract, by the bytes at the place.
-- Assumes nothing.
use native.Mathlib.Omega.{arith}
use Rattle.words.proofs.Words.{u32_none, u32_some}
use Rattle.words.proofs.decode_u32_le.Goals as goal

pub returns-then-buf-at : goal.returns-then-buf-at
returns-then-buf-at c = let a = c.args in u32_none a.buf.now a.at (omega arith)

pub returns : goal.returns
returns c = let a = c.args in rw c.from_le_bytes-value.ensures (u32_some a.buf.now a.at (omega arith))
