-- No second answer: two results, and two later contents of a lent buffer, that meet one contract are equal.
-- Assumes nothing.
use mathlib.Core.Path.{◌≡◌, sym, ◌∙◌}
use Rattle.one_answer.specs.OneAnswer.{OneAnswer}
use Rattle.item_lines.proofs.item_line.Kinds as item_kinds
use Rattle.item_lines.proofs.item_line.Reads as item_reads
use Rattle.item_lines.proofs.entry_line.Kinds as entry_kinds
use Rattle.item_lines.proofs.entry_line.Reads as entry_reads
use Rattle.item_lines.proofs.sums_line.Kinds as sums_kinds
use Rattle.item_lines.proofs.sums_line.Reads as sums_reads
use Rattle.item_lines.proofs.refused_line.Kinds as refused_kinds
use Rattle.item_lines.proofs.refused_line.Reads as refused_reads

pub item_line : OneAnswer 1 item_kinds.ps item_kinds.r item_reads.Post (λ κs x y s t. (x ≡ y) × (s.1.0.now ≡ t.1.0.now))
item_line κs a x y s t p q = (p.0 ∙ sym q.0, p.1 ∙ sym q.1)

pub entry_line : OneAnswer 1 entry_kinds.ps entry_kinds.r entry_reads.Post (λ κs x y s t. (x ≡ y) × (s.1.1.0.now ≡ t.1.1.0.now))
entry_line κs a x y s t p q = (p.0 ∙ sym q.0, p.1 ∙ sym q.1)

pub sums_line : OneAnswer 1 sums_kinds.ps sums_kinds.r sums_reads.Post (λ κs x y s t. (x ≡ y) × (s.1.1.1.0.now ≡ t.1.1.1.0.now))
sums_line κs a x y s t p q = (p.0 ∙ sym q.0, p.1 ∙ sym q.1)

pub refused_line : OneAnswer 1 refused_kinds.ps refused_kinds.r refused_reads.Post (λ κs x y s t. (x ≡ y) × (s.1.1.0.now ≡ t.1.1.0.now))
refused_line κs a x y s t p q = (p.0 ∙ sym q.0, p.1 ∙ sym q.1)
