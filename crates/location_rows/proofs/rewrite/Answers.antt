-- The rewrite of the locations that the rows are, and the words afterwards.
-- Assumes nothing.
use Rattle.location_rows.proofs.Rewrites.{rewritten}
use Rattle.location_rows.proofs.rewrite.Goals as goal

pub returns : goal.returns
returns c = rewritten _ _ _ _ _ _ _ c.rewrite_in.ensures.answer c.rewrite_in.ensures.after
