-- `codec::decode_longer` meets its contract: three to five bytes by themselves, the rest by the loop.
-- Assumes nothing.
use native.Mathlib.Omega.{arith}
use Rattle.codec.proofs.Reading.{so_far_more, so_far_last}
use Rattle.codec.proofs.decode_longer.Goals as goal

pub returns-then-third-lt128 : goal.returns-then-third-lt128
returns-then-third-lt128 c =
    so_far_last _ _ 2 _ c.requires.1 _ c.from-third.ensures (omega arith) (omega arith) (omega arith) (omega arith)

pub returns-then-fourth-lt128 : goal.returns-then-fourth-lt128
returns-then-fourth-lt128 c =
    let three = so_far_more _ _ 2 _ c.requires.1 _ c.from-third.ensures (omega arith) (omega arith) (omega arith) (omega arith) in
    so_far_last _ _ 3 _ three _ c.from-fourth.ensures (omega arith) (omega arith) (omega arith) (omega arith)

pub returns-then-fifth-lt128 : goal.returns-then-fifth-lt128
returns-then-fifth-lt128 c =
    let three = so_far_more _ _ 2 _ c.requires.1 _ c.from-third.ensures (omega arith) (omega arith) (omega arith) (omega arith) in
    let four = so_far_more _ _ 3 _ three _ c.from-fourth.ensures (omega arith) (omega arith) (omega arith) (omega arith) in
    so_far_last _ _ 4 _ four _ c.from-fifth.ensures (omega arith) (omega arith) (omega arith) (omega arith)

pub decode_up_to-requires : goal.decode_up_to-requires
decode_up_to-requires c =
    let three = so_far_more _ _ 2 _ c.requires.1 _ c.from-third.ensures (omega arith) (omega arith) (omega arith) (omega arith) in
    let four = so_far_more _ _ 3 _ three _ c.from-fourth.ensures (omega arith) (omega arith) (omega arith) (omega arith) in
    let five = so_far_more _ _ 4 _ four _ c.from-fifth.ensures (omega arith) (omega arith) (omega arith) (omega arith) in
    (omega arith, omega arith, omega arith, omega arith, five)
