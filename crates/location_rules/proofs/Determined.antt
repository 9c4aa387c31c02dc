-- No second answer: two results that meet one contract are equal.
-- Assumes nothing.
use mathlib.Core.Path.{◌≡◌, sym, ◌∙◌}
use Rattle.one_answer.specs.OneAnswer.{OneAnswer}
use Rattle.location_rules.proofs.stops.Kinds as stops_kinds
use Rattle.location_rules.proofs.stops.Reads as stops_reads
use Rattle.location_rules.proofs.stop_of.Kinds as stop_of_kinds
use Rattle.location_rules.proofs.stop_of.Reads as stop_of_reads
use Rattle.location_rules.proofs.is_formed.Kinds as is_formed_kinds
use Rattle.location_rules.proofs.is_formed.Reads as is_formed_reads
use Rattle.location_rules.proofs.is_ready.Kinds as is_ready_kinds
use Rattle.location_rules.proofs.is_ready.Reads as is_ready_reads
use Rattle.location_rules.proofs.overlap_of.Kinds as overlap_of_kinds
use Rattle.location_rules.proofs.overlap_of.Reads as overlap_of_reads
use Rattle.location_rules.proofs.decide.Kinds as decide_kinds
use Rattle.location_rules.proofs.decide.Reads as decide_reads
use Rattle.location_rules.proofs.run_from.Kinds as run_from_kinds
use Rattle.location_rules.proofs.run_from.Reads as run_from_reads
use Rattle.location_rules.proofs.unchanged.Kinds as unchanged_kinds
use Rattle.location_rules.proofs.unchanged.Reads as unchanged_reads
use Rattle.location_rules.proofs.outcome.Kinds as outcome_kinds
use Rattle.location_rules.proofs.outcome.Reads as outcome_reads
use Rattle.location_rules.proofs.found.Kinds as found_kinds
use Rattle.location_rules.proofs.found.Reads as found_reads
use Rattle.location_rules.proofs.no_run.Kinds as no_run_kinds
use Rattle.location_rules.proofs.no_run.Reads as no_run_reads

pub stops : OneAnswer 0 stops_kinds.ps stops_kinds.r stops_reads.Post (λ κs x y s t. x ≡ y)
stops κs a x y s t p q = p ∙ sym q

pub stop_of : OneAnswer 0 stop_of_kinds.ps stop_of_kinds.r stop_of_reads.Post (λ κs x y s t. x ≡ y)
stop_of κs a x y s t p q = p ∙ sym q

pub is_formed : OneAnswer 0 is_formed_kinds.ps is_formed_kinds.r is_formed_reads.Post (λ κs x y s t. x ≡ y)
is_formed κs a x y s t p q = p ∙ sym q

pub is_ready : OneAnswer 0 is_ready_kinds.ps is_ready_kinds.r is_ready_reads.Post (λ κs x y s t. x ≡ y)
is_ready κs a x y s t p q = p ∙ sym q

pub overlap_of : OneAnswer 0 overlap_of_kinds.ps overlap_of_kinds.r overlap_of_reads.Post (λ κs x y s t. x ≡ y)
overlap_of κs a x y s t p q = p ∙ sym q

pub decide : OneAnswer 0 decide_kinds.ps decide_kinds.r decide_reads.Post (λ κs x y s t. x ≡ y)
decide κs a x y s t p q = p ∙ sym q

pub run_from : OneAnswer 0 run_from_kinds.ps run_from_kinds.r run_from_reads.Post (λ κs x y s t. x ≡ y)
run_from κs a x y s t p q = p ∙ sym q

pub unchanged : OneAnswer 0 unchanged_kinds.ps unchanged_kinds.r unchanged_reads.Post (λ κs x y s t. x ≡ y)
unchanged κs a x y s t p q = p ∙ sym q

pub no_run : OneAnswer 0 no_run_kinds.ps no_run_kinds.r no_run_reads.Post (λ κs x y s t. x ≡ y)
no_run κs a x y s t p q = p ∙ sym q

pub outcome : OneAnswer 0 outcome_kinds.ps outcome_kinds.r outcome_reads.Post (λ κs x y s t. x ≡ y)
outcome κs a x y s t p q = p ∙ sym q

pub found : OneAnswer 0 found_kinds.ps found_kinds.r found_reads.Post (λ κs x y s t. x ≡ y)
found κs a x y s t p q = p ∙ sym q
