-- `codec::encode_long` meets its contract. The loop's invariant: there is room, and, by `Writes`, what is left of the number still has to be stored.
-- Assumes nothing.
use Prim.Native.Nat.{◌+◌, ◌≤◌}
use Rattle.codec.proofs.encode_long.Goals.{else-room-lt10-via-then-room-lt10+else-room-var_u64_len, else-room-lt10-via-else-room-lt10}
use lib.ListN.{length}
use native.Mathlib.Omega.{arith}
use Rattle.codec.specs.Shortest.{shortest}
use Rattle.words.proofs.Writing.{room_for}
use Rattle.codec.proofs.Writing.{writes_start, writes_room, writes_more, writes_last}
use Rattle.codec.proofs.Shortest.{shortest_few}
use Rattle.codec.proofs.encode_long.Goals as goal

pub loop-left-init : goal.loop-left-init
loop-left-init c =
    let a = c.args in
    let room : a.at + length (shortest a.n) ≤ length a.out.now = elim c.else-room-lt10.branch [ else-room-lt10-via-then-room-lt10+else-room-var_u64_len w ↦ omega arith | else-room-lt10-via-else-room-lt10 w ↦ omega (arith, shortest_few a.n c.ranges.n.fits) ] in
    (room, writes_start _ _ _ c.ranges.n.fits)

pub bounds-out-i : goal.bounds-out-i
bounds-out-i c =
    let w = c.loop-left.invariant.1 in
    omega (arith, writes_room w, w.same)

pub loop-left-preserved : goal.loop-left-preserved
loop-left-preserved c = (c.loop-left.invariant.0, writes_more c.loop-left.invariant.1 c.loop-left-test.true)

pub bounds-out-i-2 : goal.bounds-out-i-2
bounds-out-i-2 c =
    let w = c.loop-left.invariant.1 in
    omega (arith, writes_room w, w.same)

pub returns : goal.returns
returns c =
    let a = c.args in
    room_for a.out.now a.at (shortest a.n) _ _ c.loop-left.invariant.0 (writes_last c.loop-left.invariant.1 c.loop-left-test.false)
