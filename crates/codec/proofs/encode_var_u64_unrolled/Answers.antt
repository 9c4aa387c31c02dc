-- `codec::encode_var_u64_unrolled` meets its contract. The loop's invariant: there is room for ten bytes, and, by `Writes`, what is left of the number still has to be stored.
-- Assumes nothing.
use native.Mathlib.Omega.{arith}
use Rattle.codec.specs.Shortest.{shortest}
use Rattle.words.proofs.Writing.{room_for}
use Rattle.codec.proofs.Writing.{writes_begin, writes_step, writes_last, tenth, writes_end}
use Rattle.codec.proofs.Shortest.{shortest_few}
use Rattle.codec.proofs.encode_var_u64_unrolled.Goals as goal

pub loop-j-init : goal.loop-j-init
loop-j-init c = (omega arith, omega arith, writes_begin _ _ _ c.ranges.n.fits)

pub returns-then-left-lt128 : goal.returns-then-left-lt128
returns-then-left-lt128 c =
    let a = c.args in
    let l = c.loop-j in
    let few = shortest_few a.n c.ranges.n.fits in
    room_for a.out.now a.at (shortest a.n) _ _ (omega (arith, few, l.invariant.0)) (writes_last l.invariant.2 c.if-left-lt128.true)

pub loop-j-preserved : goal.loop-j-preserved
loop-j-preserved c =
    let l = c.loop-j in
    (l.invariant.0, omega arith, writes_step l.j l.invariant.2 c.if-left-lt128.false)

pub overflow_cast-out-2 : goal.overflow_cast-out-2
overflow_cast-out-2 c =
    let l = c.loop-j in
    let few = shortest_few c.args.n c.ranges.n.fits in
    omega (arith, tenth l.j l.invariant.2 few c.loop-j-test.false)

pub returns : goal.returns
returns c =
    let a = c.args in
    let l = c.loop-j in
    let small = c.ranges.n.fits in
    let few = shortest_few a.n small in
    room_for a.out.now a.at (shortest a.n) _ _ (omega (arith, few, l.invariant.0)) (writes_end l.j l.invariant.2 small l.invariant.1 c.loop-j-test.false)
