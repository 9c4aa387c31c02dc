-- The header of a batch: two big-endian 64-bit words. The first is length times 256 plus compression type, the second the body's offset.
-- Assumes nothing.
use Rattle.std.specs.Prelude.{ℕ, ◌/◌, ◌%◌, List, length, take, drop, nat_le, Result, Ok, Err}
use Rattle.words.specs.Word.{big_endian}
use Rattle.log_item.specs.Got.{Got, got, refused, Reading, upto, ◌>>◌, ◌else◌}
use Rattle.log_batch.specs.declared.LogBatch.{LogBatch}
use Rattle.refusal.specs.declared.Reason.{Reason}
use Rattle.refusal.specs.declared.Reason.TheVariants.{CompressionUnknown, HeaderShort, OffsetAboveLength, OffsetBelowHeader}

-- what the two words state
unfoldable pub frame : ℕ → ℕ → Reading LogBatch
frame first second = do
  nat_le (first % 256) 1 else CompressionUnknown
  nat_le second (first / 256) else OffsetAboveLength
  nat_le 16 second else OffsetBelowHeader
  upto 16 (record { offset = second; len = first / 256; compression = first % 256 })

unfoldable pub header : List ℕ → Reading LogBatch
header s = do
  nat_le 16 (length s) else HeaderShort
  frame (big_endian (take 8 s)) (big_endian (take 8 (drop 8 s)))

abbrev pub header_got : Result LogBatch Reason → Got LogBatch
header_got (Ok b) = got b 16
header_got (Err r) = refused r
