-- `log_item::entries::read_short` meets its contract.
-- Assumes nothing.
use Prim.Native.Nat.{◌+◌}
use native.Mathlib.Omega.{arith}
use Rattle.log_item.proofs.Short.{two, three}
use Rattle.log_item.proofs.entries.read_short.Goals as goal

pub returns-then-b-lt128 : goal.returns-then-b-lt128
returns-then-b-lt128 c =
    let part = c.in-Some-len3-up.ensures.lookup.0 in
    two c.in-Any.is _ _ part.2 part.3 c.in-Some-len3-up.len_at_least c.from.ensures c.from-in-Some-len3-up.ensures c.if-a-ge128.true c.if-b-lt128.true

pub returns-then-c-lt128 : goal.returns-then-c-lt128
returns-then-c-lt128 c =
    let part = c.in-Some-len3-up.ensures.lookup.0 in
    let byte = c.type_inv.buf (c.args.at + 1) in
    three c.in-Any.is _ _ part.2 part.3 c.in-Some-len3-up.len_at_least c.from.ensures c.from-in-Some-len3-up.ensures c.if-a-ge128.true
    c.from-in-Some-len3-up-2.ensures c.if-b-lt128.false (omega arith) c.if-c-lt128.true
