-- `item_lines::refused_line` meets its contract.
-- Assumes nothing.
use Rattle.words.proofs.Writing.{of_bytes}
use Rattle.item_lines.proofs.Lines.{refused_same}
use Rattle.item_lines.proofs.refused_line.Goals as goal

pub returns : goal.returns
returns c =
    let a = c.args in
    of_bytes a.out.now a.at _ _
    (refused_same a.number a.item c.from.ensures c.new-line.ensures c.field.ensures.text c.field-2.ensures.text c.push.ensures) c.put.ensures
