-- No second answer: two results, and two later contents of the lent rows, that meet one contract are equal.
-- Assumes nothing.
use Rattle.std.proofs.Common.{◌≡◌, sym, ◌∙◌}
use Rattle.one_answer.specs.OneAnswer.{OneAnswer}
use Rattle.rows_reader.proofs.read_body.Kinds as read_body_kinds
use Rattle.rows_reader.proofs.read_body.Reads as read_body_reads

pub read_body : OneAnswer 3 read_body_kinds.ps read_body_kinds.r read_body_reads.Post
    (λ κs x y s t. (x ≡ y) × (s.1.1.1.0.now ≡ t.1.1.1.0.now) × (s.1.1.1.1.0.now ≡ t.1.1.1.1.0.now))
read_body κs a x y s t p q = (p.answer ∙ sym q.answer, p.rows.item_rows ∙ sym q.rows.item_rows, p.rows.entry_rows ∙ sym q.rows.entry_rows)
