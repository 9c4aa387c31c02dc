-- `words::half` meets its contract.
-- Assumes nothing.
use mathlib.Core.Path.{◌∙◌}
use Rattle.words.proofs.Words.{high_first}
use Rattle.words.proofs.half.Goals as goal

pub returns : goal.returns
returns c = let a = c.args in c.from_be_bytes.ensures ∙ high_first a.a a.b a.c a.d
