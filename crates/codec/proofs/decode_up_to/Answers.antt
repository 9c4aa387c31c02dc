-- `codec::decode_up_to` meets its contract. The loop's invariant: j bytes are read, their number is below 2 ^ (7 * j), and the whole answer is that number below what is left to read.
-- Assumes nothing.
use Prim.Native.Nat.{◌-◌}
use mathlib.Core.Path.{◌≡◌}
use native.Mathlib.Omega.{arith}
use Rattle.codec.proofs.Reading.{grown, grown_fits, turn_last, turn_more, turn_short, turn_over, turn_tenth}
use Rattle.codec.proofs.decode_up_to.Goals as goal

pub overflow_add-result : goal.overflow_add-result
overflow_add-result c =
    let l = c.loop-j in
    record { fits = grown_fits l.value c.from-b.result l.j (omega arith) (omega arith) l.invariant.2 }

pub returns-then-b-lt128 : goal.returns-then-b-lt128
returns-then-b-lt128 c =
    let l = c.loop-j in
    turn_last _ _ _ l.j l.value l.invariant.3 c.from-b.result c.from-b.ensures (omega arith) (omega arith) (omega arith)

pub overflow_add-value : goal.overflow_add-value
overflow_add-value c =
    let l = c.loop-j in
    record { fits = grown_fits l.value (c.from-b.result - 128) l.j (omega arith) (omega arith) l.invariant.2 }

pub loop-j-preserved : goal.loop-j-preserved
loop-j-preserved c =
    let l = c.loop-j in (
      omega arith,
      omega arith,
      grown l.value (c.from-b.result - 128) l.j (omega arith) (omega arith) l.invariant.2,
      turn_more _ _ _ l.j l.value l.invariant.3 c.from-b.result c.from-b.ensures (omega arith) (omega arith) (omega arith) (omega arith),
    )

pub returns-then-buf-at-le9 : goal.returns-then-buf-at-le9
returns-then-buf-at-le9 c =
    let l = c.loop-j in
    turn_short _ _ _ l.j l.value l.invariant.3 (omega arith)

pub returns-then-b-gt1 : goal.returns-then-b-gt1
returns-then-b-gt1 c =
    let l = c.loop-j in
    let nine : l.j ≡ 9 = omega arith in
    turn_over _ _ _ l.value (rw nine at l.invariant.3) c.from-b-2.result c.from-b-2.ensures (omega arith) (omega arith)

pub returns : goal.returns
returns c =
    let l = c.loop-j in
    let nine : l.j ≡ 9 = omega arith in
    turn_tenth _ _ _ l.value (rw nine at l.invariant.3) c.from-b-2.result c.from-b-2.ensures (omega arith) (omega arith)
