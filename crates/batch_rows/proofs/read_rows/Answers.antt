-- `batch_rows::read_rows` meets its contract.
-- Assumes nothing.
use Rattle.std.proofs.Common.{rules, ◌≡◌, ◌-◌, Err, sym, ap, ◌∙◌}
use Rattle.log_item.specs.declared.Span.{Span}
use Rattle.batch_rows.proofs.RowsRead.{rows_read}
use Rattle.batch_rows.proofs.read_rows.Goals as goal

pub returns-in_err-check : goal.returns-in_err-check
returns-in_err-check c =
    let same : c.from_residual-in_err-check.result ≡ Err c.in_err-check.field-0.0 = search rules in
    rows_read _ _ _ _ (sym c.in_ok-batch.ensures) (c.sealed_len.ensures ∙ ap (λ (block : Span). block.len - 4) c.block-block.ensures) c.read_body.ensures (rw c.in_err-check.was same)

pub returns : goal.returns
returns c = rows_read _ _ _ _ (sym c.in_ok-batch.ensures) (c.sealed_len.ensures ∙ ap (λ (block : Span). block.len - 4) c.block-block.ensures) c.read_body.ensures (rw (c.in_ok-check.was, c.body-body.ensures, c.block-block.ensures))
