-- No second answer: two results, and two later readers, that meet one contract are equal.
-- Assumes nothing.
use Rattle.std.proofs.Common.{◌≡◌, sym, ◌∙◌}
use Rattle.one_answer.specs.OneAnswer.{OneAnswer}
use Rattle.item_reader.proofs.ItemReader.open.Kinds as open_kinds
use Rattle.item_reader.proofs.ItemReader.open.Reads as open_reads
use Rattle.item_reader.proofs.ItemReader.next.Kinds as next_kinds
use Rattle.item_reader.proofs.ItemReader.next.Reads as next_reads
use Rattle.item_reader.proofs.Cursor.start.Kinds as start_kinds
use Rattle.item_reader.proofs.Cursor.start.Reads as start_reads
use Rattle.item_reader.proofs.Cursor.step.Kinds as step_kinds
use Rattle.item_reader.proofs.Cursor.step.Reads as step_reads
use Rattle.item_reader.proofs.nth.Kinds as nth_kinds
use Rattle.item_reader.proofs.nth.Reads as nth_reads
use Rattle.item_reader.proofs.next_row.Kinds as next_row_kinds
use Rattle.item_reader.proofs.next_row.Reads as next_row_reads

pub start : OneAnswer 1 start_kinds.ps start_kinds.r start_reads.Post (λ κs x y s t. x ≡ y)
start κs a x y s t p q = p ∙ sym q

pub step : OneAnswer 1 step_kinds.ps step_kinds.r step_reads.Post (λ κs x y s t. x ≡ y)
step κs a x y s t p q = p ∙ sym q

pub opening : OneAnswer 1 open_kinds.ps open_kinds.r open_reads.Post (λ κs x y s t. x ≡ y)
opening κs a x y s t p q = p ∙ sym q

pub next : OneAnswer 2 next_kinds.ps next_kinds.r next_reads.Post (λ κs x y s t. (x ≡ y) × (s.0.now ≡ t.0.now))
next κs a x y s t p q = (p.0 ∙ sym q.0, p.1 ∙ sym q.1)

pub nth : OneAnswer 1 nth_kinds.ps nth_kinds.r nth_reads.Post (λ κs x y s t. x ≡ y)
nth κs a x y s t p q = p ∙ sym q

pub next_row : OneAnswer 1 next_row_kinds.ps next_row_kinds.r next_row_reads.Post (λ κs x y s t. x ≡ y)
next_row κs a x y s t p q = p ∙ sym q
