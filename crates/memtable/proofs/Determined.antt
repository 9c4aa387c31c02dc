-- No second answer: two results, and two later contents of what is lent, that meet one contract are equal.
-- Assumes nothing.
use mathlib.Core.Path.{◌≡◌, sym, ◌∙◌}
use mir.Syntax.{Dict}
use denote.RattleType.{RattleType}
use denote.Param.Laws.{Laws}
use Rattle.memtable.specs.declared.Layout.{Ghosts}
use Rattle.one_answer.specs.OneAnswer.{OneAnswer}
use Rattle.memtable.proofs.rewrite.Kinds as rewrite_kinds
use Rattle.memtable.proofs.rewrite.Reads as rewrite_reads
use Rattle.memtable.proofs.fetch_in.Kinds as fetch_in_kinds
use Rattle.memtable.proofs.fetch_in.Reads as fetch_in_reads
use Rattle.memtable.proofs.rewrite_in.Kinds as rewrite_in_kinds
use Rattle.memtable.proofs.rewrite_in.Reads as rewrite_in_reads
use Rattle.memtable.proofs.fetch_entry_indexes_before.Kinds as fetch_kinds
use Rattle.memtable.proofs.fetch_entry_indexes_before.Reads as fetch_reads

pub rewrite : OneAnswer 2 rewrite_kinds.ps rewrite_kinds.r rewrite_reads.Post (λ κs x y s t. (x ≡ y) × (s.0.now ≡ t.0.now))
rewrite κs a x y s t p q = (p.0 ∙ sym q.0, p.1 ∙ sym q.1)

pub fetch_entry_indexes_before : OneAnswer 1 fetch_kinds.ps fetch_kinds.r fetch_reads.Post (λ κs x y s t. x ≡ y)
fetch_entry_indexes_before κs a x y s t p q = p ∙ sym q

-- rows that lie in any way
module _ (L C : RattleType) (l : Laws L) (c : Laws C) (g : Ghosts L.Denot C.Denot) (d : Dict) where
  pub rewrite_in : OneAnswer 4 (rewrite_in_kinds.ps L C l c) (rewrite_in_kinds.r L C l c) (rewrite_in_reads.Post L C l c g d) (λ κs x y s t. (x ≡ y) × (s.0.now ≡ t.0.now))
  rewrite_in κs a x y s t p q = let same : x ≡ y = p.0 ∙ sym q.0 in (same, (rw same at p.1) ∙ sym q.1)

  pub fetch_in : OneAnswer 3 (fetch_in_kinds.ps L C l c) (fetch_in_kinds.r L C l c) (fetch_in_reads.Post L C l c g d) (λ κs x y s t. x ≡ y)
  fetch_in κs a x y s t p q = p ∙ sym q
