-- No second answer: two results, and two later contents of what is lent, that meet one contract are equal.
-- Assumes nothing.
use mathlib.Core.Path.{◌≡◌, sym, ◌∙◌}
use Rattle.one_answer.specs.OneAnswer.{OneAnswer}
use Rattle.item_row.proofs.Replies.{same}
use Rattle.speed_tables.proofs.speed_table.Kinds as table_kinds
use Rattle.speed_tables.proofs.speed_table.Reads as table_reads
use Rattle.speed_tables.proofs.speed_write.Kinds as write_kinds
use Rattle.speed_tables.proofs.speed_write.Reads as write_reads

pub speed_table : OneAnswer 2 table_kinds.ps table_kinds.r table_reads.Post (λ κs x y s t. (x ≡ y) × (s.1.1.0.now ≡ t.1.1.0.now))
speed_table κs a x y s t p q = same p q

pub speed_write : OneAnswer 3 write_kinds.ps write_kinds.r write_reads.Post
    (λ κs x y s t. (x ≡ y) × (s.1.1.1.0.now ≡ t.1.1.1.0.now) × (s.1.1.0.now ≡ t.1.1.0.now))
speed_write κs a x y s t p q = let e = same p.answer q.answer in (e.0, e.1, p.written ∙ sym q.written)
