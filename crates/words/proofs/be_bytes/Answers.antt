-- `words::be_bytes` meets its contract.
-- Assumes nothing.
use Rattle.words.proofs.Words.{half_parts}
use Rattle.words.proofs.be_bytes.Goals as goal

pub returns : goal.returns
returns c = half_parts c.args.w _ _ c.to_le_bytes-high.ensures c.to_le_bytes-low.ensures
