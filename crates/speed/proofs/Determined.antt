-- No second answer: two results, and two later contents of the answer lent, that meet one contract are equal.
-- Assumes nothing.
use mathlib.Core.Path.{◌≡◌}
use Rattle.one_answer.specs.OneAnswer.{OneAnswer}
use Rattle.item_row.proofs.Replies.{same}
use Rattle.speed.proofs.speed_check_items.Kinds as check_items_kinds
use Rattle.speed.proofs.speed_check_items.Reads as check_items_reads
use Rattle.speed.proofs.speed_steps.Kinds as steps_kinds
use Rattle.speed.proofs.speed_steps.Reads as steps_reads

pub check_items : OneAnswer 2 check_items_kinds.ps check_items_kinds.r check_items_reads.Post (λ κs x y s t. (x ≡ y) × (s.1.0.now ≡ t.1.0.now))
check_items κs a x y s t p q = same p q

pub steps : OneAnswer 2 steps_kinds.ps steps_kinds.r steps_reads.Post (λ κs x y s t. (x ≡ y) × (s.1.1.0.now ≡ t.1.1.0.now))
steps κs a x y s t p q = same p q
