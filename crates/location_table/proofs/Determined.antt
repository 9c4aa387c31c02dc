-- No second answer: two results that meet one contract are equal.
-- Assumes nothing.
use mathlib.Core.Path.{◌≡◌, sym, ◌∙◌}
use Rattle.one_answer.specs.OneAnswer.{OneAnswer}
use Rattle.location_table.proofs.rewrite.Kinds as rewrite_kinds
use Rattle.location_table.proofs.rewrite.Reads as rewrite_reads
use Rattle.location_table.proofs.fetch_entry_indexes_before.Kinds as fetch_kinds
use Rattle.location_table.proofs.fetch_entry_indexes_before.Reads as fetch_reads

pub rewrite : OneAnswer 0 rewrite_kinds.ps rewrite_kinds.r rewrite_reads.Post (λ κs x y s t. x ≡ y)
rewrite κs a x y s t p q = p ∙ sym q

pub fetch_entry_indexes_before : OneAnswer 0 fetch_kinds.ps fetch_kinds.r fetch_reads.Post (λ κs x y s t. x ≡ y)
fetch_entry_indexes_before κs a x y s t p q = p ∙ sym q
