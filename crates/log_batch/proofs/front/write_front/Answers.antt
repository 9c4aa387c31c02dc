-- `log_batch::front::write_front` meets its contract: the two words, then the content and its checksum where there is content.
-- Assumes nothing.
use Rattle.log_batch.proofs.Fronts.{front_empty, front_filled}
use Rattle.log_batch.proofs.front.write_front.Goals as goal

pub returns-then-is_empty : goal.returns-then-is_empty
returns-then-is_empty c = front_empty _ _ _ c.requires.2 c.body_offset-offset.ensures c.encode_u64.ensures c.encode_u64-2.ensures c.if-is_empty.ensures

pub returns : goal.returns
returns c = front_filled _ _ _ c.requires.2 c.body_offset-offset.ensures c.encode_u64.ensures c.encode_u64-2.ensures c.if-is_empty.ensures c.write_bytes.ensures c.crc32.ensures c.encode_u32_le.ensures
