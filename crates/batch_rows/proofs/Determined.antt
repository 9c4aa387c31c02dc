-- No second answer: two results, and two later contents of what is lent, that meet one contract are equal.
-- Assumes nothing.
use mathlib.Core.Path.{◌≡◌, sym, ◌∙◌}
use Rattle.one_answer.specs.OneAnswer.{OneAnswer}
use Rattle.log_batch.proofs.Determined.{batch_once}
use Rattle.batch_rows.proofs.read_rows.Kinds as read_rows_kinds
use Rattle.batch_rows.proofs.read_rows.Reads as read_rows_reads
use Rattle.batch_rows.proofs.write_rows.Kinds as write_rows_kinds
use Rattle.batch_rows.proofs.write_rows.Reads as write_rows_reads

pub read_rows : OneAnswer 3 read_rows_kinds.ps read_rows_kinds.r read_rows_reads.Post
    (λ κs x y s t. (x ≡ y) × (s.1.1.0.now ≡ t.1.1.0.now) × (s.1.1.1.0.now ≡ t.1.1.1.0.now))
read_rows κs a x y s t p q = (p.answer ∙ sym q.answer, p.rows.item_rows ∙ sym q.rows.item_rows, p.rows.entry_rows ∙ sym q.rows.entry_rows)

pub write_rows : OneAnswer 5 write_rows_kinds.ps write_rows_kinds.r write_rows_reads.Post
    (λ κs x y s t. (x ≡ y) × (s.1.1.1.1.1.1.0.now ≡ t.1.1.1.1.1.1.0.now))
write_rows κs a x y s t p q = batch_once p q
