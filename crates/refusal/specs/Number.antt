-- The number of each reason in document 01, and the refusal for a reason.
-- Assumes nothing.
use Rattle.std.specs.Prelude.{ℕ}
use Rattle.refusal.specs.declared.Reason.{Reason}
use Rattle.refusal.specs.declared.Refusal.{Refusal}
use Rattle.refusal.specs.declared.Reason.TheVariants.{HeaderShort, CompressionUnknown, OffsetAboveLength, OffsetBelowHeader, NoContent, ChecksumWrong, NumberBroken, NotShortest, ItemsTooMany, ItemTypeUnknown, CommandUnknown, OpUnknown, SpanOutside, EntriesTooMany, TailFalls, TailTooLarge, IndexTooLarge, BatchShort, Compressed, BlockDiffers, OutputShort, OutputTooLong, KeyInternal, OverlapAfter, OverlapBefore, TableBroken, IncomingBroken, StatusUnknown}

abbrev pub number_of : Reason → ℕ
number_of HeaderShort = 1
number_of CompressionUnknown = 2
number_of OffsetAboveLength = 3
number_of OffsetBelowHeader = 4
number_of NoContent = 5
number_of ChecksumWrong = 6
number_of NumberBroken = 7
number_of NotShortest = 8
number_of ItemsTooMany = 9
number_of ItemTypeUnknown = 10
number_of CommandUnknown = 11
number_of OpUnknown = 12
number_of SpanOutside = 13
number_of EntriesTooMany = 14
number_of TailFalls = 15
number_of TailTooLarge = 16
number_of IndexTooLarge = 17
number_of BatchShort = 18
number_of Compressed = 19
number_of BlockDiffers = 20
number_of OutputShort = 21
number_of OutputTooLong = 22
number_of KeyInternal = 23
number_of OverlapAfter = 24
number_of OverlapBefore = 25
number_of TableBroken = 26
number_of IncomingBroken = 27
number_of StatusUnknown = 28

-- a reason's number and its item
abbrev pub refusal_of : Reason → ℕ → Refusal
refusal_of r i = record { number = number_of r; item = i }
