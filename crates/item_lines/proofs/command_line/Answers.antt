-- `item_lines::command_line` meets its contract.
-- Assumes nothing.
use Rattle.item_lines.proofs.Lines.{clean_same, compact_same}
use Rattle.item_lines.proofs.command_line.Goals as goal

pub returns-in-Clean : goal.returns-in-Clean
returns-in-Clean c = clean_same _ c.in-Clean.is c.new-line.ensures c.field.ensures.text c.push.ensures

pub returns-in-Compact : goal.returns-in-Compact
returns-in-Compact c = compact_same _ c.in-Compact.is c.new-line.ensures c.field.ensures.text c.field-in-Compact.ensures.text c.push-in-Compact.ensures
