-- `log_batch::LogBatch::decode` meets its contract.
-- Assumes nothing.
use Rattle.std.proofs.Common.{sym, arith}
use Rattle.log_batch.proofs.Frames.{front_known, table_refused, table_stays, table_differs, table_placed}
use Rattle.log_batch.proofs.LogBatch.decode.Goals as goal

pub slice_bounds-decode-count : goal.slice_bounds-decode-count
slice_bounds-decode-count c = let f = front_known c.args.buf.now (sym c.in-Ok.ensures) in omega (arith, f.start, f.inside, f.there)

pub slice_bounds-decode-start : goal.slice_bounds-decode-start
slice_bounds-decode-start c = let f = front_known c.args.buf.now (sym c.in-Ok.ensures) in omega (arith, f.start, f.inside, f.there)

pub slice_bounds-decode-end : goal.slice_bounds-decode-end
slice_bounds-decode-end c = let f = front_known c.args.buf.now (sym c.in-Ok.ensures) in omega (arith, f.start, f.inside, f.there)

pub returns-in-Err : goal.returns-in-Err
returns-in-Err c = table_refused _ _ (sym c.in-Err.ensures) c.empty.ensures c.from.ensures

pub returns-then-is_some : goal.returns-then-is_some
returns-then-is_some c = table_stays _ _ (sym c.in-Ok.ensures) _ _ c.decode-t.ensures c.if-is_some.ensures

pub returns-then-t-sealed_len : goal.returns-then-t-sealed_len
returns-then-t-sealed_len c =
    table_differs _ _ (sym c.in-Ok.ensures) _ _ c.decode-t.ensures c.if-is_some.ensures (rw c.block-block.ensures at c.sealed_len.ensures) c.if-t-sealed_len.true
    c.empty-then-t-sealed_len.ensures c.from-then-t-sealed_len.ensures

pub returns : goal.returns
returns c =
    rw (c.body-body.ensures, c.block-block.ensures)
    (table_placed _ _ (sym c.in-Ok.ensures) _ _ c.decode-t.ensures c.if-is_some.ensures (rw c.block-block.ensures at c.sealed_len.ensures) c.if-t-sealed_len.false)
