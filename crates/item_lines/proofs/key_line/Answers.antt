-- `item_lines::key_line` meets its contract.
-- Assumes nothing.
use Rattle.item_lines.proofs.Lines.{put_same, del_same}
use Rattle.item_lines.proofs.key_line.Goals as goal

pub returns-in-Put : goal.returns-in-Put
returns-in-Put c = put_same _ _ c.in-Put.is c.new-line.ensures c.field.ensures.text c.field-in-Put.ensures.text c.field-in-Put-2.ensures.text c.push.ensures

pub returns-in-Del : goal.returns-in-Del
returns-in-Del c = del_same _ _ c.in-Del.is c.new-line.ensures c.field.ensures.text c.field-in-Del.ensures.text c.push-in-Del.ensures
