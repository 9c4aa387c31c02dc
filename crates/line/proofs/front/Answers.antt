-- `line::front` meets its contract.
-- Assumes nothing.
use Rattle.line.proofs.Places.{front_part}
use Rattle.line.proofs.front.Goals as goal

pub returns : goal.returns
returns c = let a = c.args in front_part a.text a.n c.part.ensures
