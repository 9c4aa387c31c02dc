-- `codec::decode_var_u64_unrolled` meets its contract: fewer than nine bytes by `decode_var_u64`, one byte and two by themselves, the rest by `decode_longer`.
-- Assumes nothing.
use mathlib.Core.Path.{sym}
use native.Mathlib.Omega.{arith}
use Rattle.codec.proofs.Reading.{first_short, first_one, first_two, so_far_one, so_far_more}
use Rattle.codec.proofs.decode_var_u64_unrolled.Goals as goal

pub returns-then-buf-at : goal.returns-then-buf-at
returns-then-buf-at c = sym (first_short _ _ c.if-buf-at.true)

pub returns-then-first-lt128 : goal.returns-then-first-lt128
returns-then-first-lt128 c = first_one _ _ _ (omega arith) c.from-first.ensures c.if-first-lt128.true

pub returns-then-second-lt128 : goal.returns-then-second-lt128
returns-then-second-lt128 c =
    first_two _ _ _ _ (omega arith) c.from-first.ensures c.from-second.ensures c.if-first-lt128.false c.if-second-lt128.true

pub decode_longer-requires : goal.decode_longer-requires
decode_longer-requires c = (
  omega arith,
  so_far_more _ _ 1 _ (so_far_one _ _ _ (omega arith) c.from-first.ensures (omega arith) (omega arith)) _ c.from-second.ensures
      (omega arith) (omega arith) (omega arith) (omega arith),
)
