-- `words::encode_u32_le` meets its contract.
-- Assumes nothing.
use mathlib.Core.Path.{◌∙◌}
use Rattle.words.proofs.Words.{low_first_bytes}
use Rattle.words.proofs.Writing.{of_bytes}
use Rattle.words.proofs.encode_u32_le.Goals as goal

pub returns : goal.returns
returns c = let a = c.args in of_bytes a.out.now a.at _ _ (c.to_le_bytes.ensures ∙ low_first_bytes a.w) c.write_bytes.ensures
