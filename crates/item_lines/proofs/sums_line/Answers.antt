-- `item_lines::sums_line` meets its contract.
-- Assumes nothing.
use Rattle.words.proofs.Writing.{of_bytes}
use Rattle.item_lines.proofs.Lines.{sums_same}
use Rattle.item_lines.proofs.sums_line.Goals as goal

pub returns : goal.returns
returns c =
    let a = c.args in
    of_bytes a.out.now a.at _ _
    (sums_same a.items a.entries a.bytes c.new-line.ensures c.field.ensures.text c.field-2.ensures.text c.field-3.ensures.text c.push.ensures) c.put.ensures
