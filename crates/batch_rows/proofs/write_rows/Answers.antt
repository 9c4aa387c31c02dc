-- `batch_rows::write_rows` meets its contract: the answer is decided first; behind header and block the body has room.
-- Assumes nothing.
use Rattle.std.proofs.Common.{◌≡◌, Err, refl, rules}
use Rattle.log_batch.proofs.Fronts.{body_behind}
use Rattle.batch_rows.proofs.RowsWritten.{rows_sized}
use Rattle.log_batch.proofs.Written.{begun_small, never_refused, batch_left, body_fits, batch_stored}
use Rattle.batch_rows.proofs.write_rows.Goals as goal

pub returns-in_err-len : goal.returns-in_err-len
returns-in_err-len c =
    let e : c.from_residual.result ≡ Err c.in_err-len.field-0.0 = search rules in
    rw e (batch_left c.measure_rows-m.ensures (rows_sized _ _ _ _ _) (rw c.in_err-len.was at c.begin.ensures) refl)

pub returns-in_err-at : goal.returns-in_err-at
returns-in_err-at c = absurd (never_refused c.measure_rows-m.ensures (rows_sized _ _ _ _ c.args.signature) c.begin.ensures c.in_ok-len.was c.if-len-ne0.true c.in_err-at.was)

pub overflow_sub-at : goal.overflow_sub-at
overflow_sub-at c =
    body_behind c.begin.ensures (begun_small c.measure_rows-m.ensures (rows_sized _ _ _ _ c.args.signature) c.begin.ensures) c.in_ok-len.was c.if-len-ne0.true c.in_ok-at.was

pub returns-in_err-encode_rows : goal.returns-in_err-encode_rows
returns-in_err-encode_rows c =
    let fits = body_fits c.measure_rows-m.ensures (rows_sized _ _ _ _ _) c.begin.ensures c.in_ok-len.was c.if-len-ne0.true c.in_ok-at.was c.encode_rows.ensures in
    let f = c.in_err-encode_rows.was in
    cc

pub returns-in_ok-encode_rows : goal.returns-in_ok-encode_rows
returns-in_ok-encode_rows c =
    rw (← c.in_ok-len.was) (batch_stored c.measure_rows-m.ensures (rows_sized _ _ _ _ _) c.begin.ensures c.in_ok-len.was c.if-len-ne0.true c.in_ok-at.was c.encode_rows.ensures)

pub returns-else-len-ne0 : goal.returns-else-len-ne0
returns-else-len-ne0 c = rw (← c.in_ok-len.was) (batch_left c.measure_rows-m.ensures (rows_sized _ _ _ _ _) c.begin.ensures (rw c.in_ok-len.was c.if-len-ne0.false))
