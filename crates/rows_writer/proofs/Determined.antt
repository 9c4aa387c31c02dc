-- No second answer: two results that meet one contract are equal, and so are the buffers that they leave.
-- Assumes nothing.
use mathlib.Core.Path.{◌≡◌, sym, ◌∙◌}
use Rattle.one_answer.specs.OneAnswer.{OneAnswer}
use Rattle.list_writer.proofs.Determined.{written_once}
use Rattle.rows_writer.proofs.measure_rows.Kinds as measure_rows_kinds
use Rattle.rows_writer.proofs.measure_rows.Reads as measure_rows_reads
use Rattle.rows_writer.proofs.encode_rows.Kinds as encode_rows_kinds
use Rattle.rows_writer.proofs.encode_rows.Reads as encode_rows_reads

pub measure_rows : OneAnswer 3 measure_rows_kinds.ps measure_rows_kinds.r measure_rows_reads.Post (λ κs x y s t. x ≡ y)
measure_rows κs a x y s t p q = p ∙ sym q

pub encode_rows : OneAnswer 4 encode_rows_kinds.ps encode_rows_kinds.r encode_rows_reads.Post (λ κs x y s t. (x ≡ y) × (s.1.1.1.1.1.0.now ≡ t.1.1.1.1.1.0.now))
encode_rows κs a x y s t p q = written_once p q
