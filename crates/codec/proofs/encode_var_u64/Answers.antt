-- `codec::encode_var_u64` meets its contract: one byte by itself, the rest by `encode_long`.
-- Assumes nothing.
use Rattle.codec.proofs.Writing.{one_short, one_byte}
use Rattle.codec.proofs.encode_var_u64.Goals as goal

pub returns-then-out-at : goal.returns-then-out-at
returns-then-out-at c = one_short _ _ _ c.if-n-lt128.true c.if-out-at.true

pub returns-then-n-lt128 : goal.returns-then-n-lt128
returns-then-n-lt128 c = one_byte _ c.args.out.now _ c.if-n-lt128.true c.if-out-at.false
