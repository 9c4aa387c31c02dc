-- The run lies in the rows and in the incoming ones, so that rows are put, and the answer and the rows are those of the definition.
-- Assumes nothing.
use Rattle.std.proofs.Common.{rules, sym, ◌∙◌}
use Rattle.memtable.proofs.Rewrites.{answer_is, rows_put}
use Rattle.memtable.proofs.rewrite_in.Goals as goal

pub returns-in_err-answer-clause-answer : goal.returns-in_err-answer-clause-answer
returns-in_err-answer-clause-answer g c =
    answer_is _ _ _ _ _ _ c.count.ensures c.count-2.ensures _ c.overlap_of-over.ensures _ _ c.scan-end.ensures _ _ _ _ c.decide.ensures _ _ c.is_well_formed-good.ensures c.is_ready-ready.ensures c.stop_of-stop.ensures _ (search rules)

pub returns-clause-answer : goal.returns-clause-answer
returns-clause-answer g c =
    answer_is _ _ _ _ _ _ c.count.ensures c.count-2.ensures _ c.overlap_of-over.ensures _ _ c.scan-end.ensures _ _ _ _ c.decide.ensures _ _ c.is_well_formed-good.ensures c.is_ready-ready.ensures c.stop_of-stop.ensures _ (sym c.in_ok-answer.was)

pub returns-clause-after : goal.returns-clause-after
returns-clause-after g c =
    c.replace.ensures
    ∙ rows_put _ _ _ _ _ _ c.count.ensures c.count-2.ensures _ c.overlap_of-over.ensures _ _ c.scan-end.ensures _ _ _ _ c.decide.ensures _ _ c.is_well_formed-good.ensures c.is_ready-ready.ensures c.stop_of-stop.ensures
    g.L.Layout.put g.met.L.Layout.put_none _ _ _ c.in_ok-answer.was
