-- `line::word` meets its contract.
-- Assumes nothing.
use mathlib.Core.Path.{◌∙◌}
use Rattle.line.proofs.Places.{word_front}
use Rattle.line.proofs.word.Goals as goal

pub returns : goal.returns
returns c = let a = c.args in c.front.ensures ∙ (word_front a.line c.words_from-rest.result a.k c.find.result c.words_from-rest.ensures c.find.ensures)
