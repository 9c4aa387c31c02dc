-- `item_lines::entry_line` meets its contract.
-- Assumes nothing.
use Rattle.words.proofs.Writing.{of_bytes}
use Rattle.item_lines.proofs.Lines.{entry_same}
use Rattle.item_lines.proofs.entry_line.Goals as goal

pub returns : goal.returns
returns c =
    let a = c.args in
    of_bytes a.out.now a.at _ _
    (entry_same a.group a.row c.from.ensures c.from-2.ensures c.new-line.ensures c.field.ensures.text c.field-2.ensures.text c.field-3.ensures.text c.field-4.ensures.text c.push.ensures) c.put.ensures
