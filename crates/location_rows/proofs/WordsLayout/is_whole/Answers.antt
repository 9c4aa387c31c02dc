-- A row more: the others are what is left of the words.
-- Assumes nothing.
use Rattle.std.proofs.Common.{◌∙◌, sym, arith}
use Rattle.location_rows.proofs.Scans.{row_broken, row_whole}
use Rattle.location_rows.proofs.WordsLayout.is_whole.Goals as goal

pub returns-then-row-gt1 : goal.returns-then-row-gt1
returns-then-row-gt1 c =
    let step = c.in-Some.ensures.steps in
    sym (c.loop-row.invariant.same ∙ row_broken _ _ _ step.1.0 (step.1.1 ∙ c.loop-row.invariant.size) c.if-row-gt1.true)

pub loop-row-preserved : goal.loop-row-preserved
loop-row-preserved c =
    let step = c.in-Some.ensures.steps in
    record {
      can = omega (arith, step.0, c.loop-row.invariant.size);
      finite = tt;
      size = step.0 ∙ c.loop-row.invariant.size;
      same = c.loop-row.invariant.same ∙ row_whole _ _ _ step.1.0 (step.1.1 ∙ c.loop-row.invariant.size) c.if-row-gt1.false;
    }
