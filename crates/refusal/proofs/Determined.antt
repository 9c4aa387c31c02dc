-- No second answer: two results that meet one contract are equal.
-- Assumes nothing.
use mathlib.Core.Path.{◌≡◌, sym, ◌∙◌}
use Rattle.one_answer.specs.OneAnswer.{OneAnswer}
use Rattle.refusal.proofs.Reason.number.Kinds as number_kinds
use Rattle.refusal.proofs.Reason.number.Reads as number_reads
use Rattle.refusal.proofs.Refusal.new.Kinds as new_kinds
use Rattle.refusal.proofs.Refusal.new.Reads as new_reads
use Rattle.refusal.proofs.RefusalFromReason.from.Kinds as from_kinds
use Rattle.refusal.proofs.RefusalFromReason.from.Reads as from_reads

pub number : OneAnswer 0 number_kinds.ps number_kinds.r number_reads.Post (λ κs x y s t. x ≡ y)
number κs a x y s t p q = p ∙ sym q

pub new : OneAnswer 0 new_kinds.ps new_kinds.r new_reads.Post (λ κs x y s t. x ≡ y)
new κs a x y s t p q = p ∙ sym q

pub from : OneAnswer 0 from_kinds.ps from_kinds.r from_reads.Post (λ κs x y s t. x ≡ y)
from κs a x y s t p q = p ∙ sym q
