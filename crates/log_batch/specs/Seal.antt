-- A seal: bytes, and behind them their checksum XOR a signature, little-endian. A body has one, and so has a block that is not empty.
-- Assumes nothing.
use Rattle.std.specs.Prelude.{ℕ, ◌-◌, cond, List, length, take, drop, ◌==◌, bit_xor, nat_lt, Err}
use Rattle.refusal.specs.First.{◌else◌, ◌>>◌, Checked, fine}
use Rattle.words.specs.Word.{little_endian}
use Rattle.crc.specs.Crc.{crc_of}
use Rattle.refusal.specs.declared.Reason.{Reason}
use Rattle.refusal.specs.declared.Reason.TheVariants.{ChecksumWrong, NoContent}

-- how much stands before the last four bytes, what that is, and the word that these are
abbrev pub sealed_length : List ℕ → ℕ
sealed_length b = length b - 4

abbrev pub sealed_part : List ℕ → List ℕ
sealed_part b = take (sealed_length b) b

abbrev pub footer : List ℕ → ℕ
footer b = little_endian (drop (sealed_length b) b)

-- 5 where there are four bytes or fewer, 6 where the checksum is wrong
unfoldable pub seal_check : List ℕ → ℕ → Checked Reason
seal_check b signature = do
  nat_lt 4 (length b) else Err NoContent
  (footer b == bit_xor (crc_of (sealed_part b)) signature) else Err ChecksumWrong
  fine

-- a block: empty, or content and its unsigned checksum
unfoldable pub block_check : List ℕ → Checked Reason
block_check b = cond (length b == 0) fine (seal_check b 0)
