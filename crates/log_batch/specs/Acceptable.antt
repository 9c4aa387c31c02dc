-- What it is for bytes to begin with a list, for a body to be acceptable, and for a whole batch: relations, with no reading procedure.
-- Assumes nothing.
use Rattle.std.specs.Prelude.{◌≡◌, ℕ, ◌+◌, ◌*◌, ◌<◌, List, [], ◌++◌, length, bit_xor}
use Rattle.words.specs.Word.{little_endian, big_endian}
use Rattle.crc.specs.Crc.{crc_of}
use Rattle.log_item.specs.declared.Form.{Form}
use Rattle.log_item.specs.declared.Form.TheVariants.{Any}
use Rattle.log_item.specs.declared.LogItem.{LogItem}
use Rattle.log_item.specs.declared.EntryIndex.{EntryIndex}
use Rattle.log_batch.specs.Limits.{Within}
use Rattle.log_item.specs.Spelling.{NumberIn}
use Rattle.log_batch.specs.Spelling.{Spells}

-- s begins with bytes that the list spells, with its numbers in a form, and the list is within the limits.
pub record Begins (form : Form) (s : List ℕ) (xs : List LogItem) (rows : List EntryIndex) (total : ℕ) (bytes : List ℕ) : Type 0 where
  pub ignored : List ℕ
  pub split : s ≡ bytes ++ ignored
  pub spells : Spells (NumberIn form) xs rows total bytes
  pub within : Within xs rows

-- The last four bytes are the checksum of the rest XORed with the signature, and the rest begins with bytes that the list spells.
pub record Acceptable (body : List ℕ) (signature : ℕ) (xs : List LogItem) (rows : List EntryIndex) (total : ℕ) (bytes : List ℕ) : Type 0 where
  pub rest : List ℕ
  pub last : List ℕ
  pub split : body ≡ rest ++ last
  pub four : length last ≡ 4
  pub checks : little_endian last ≡ bit_xor (crc_of rest) signature
  pub begins : Begins Any rest xs rows total bytes

-- A block is empty, or content and its unsigned checksum.
pub data Block : List ℕ → List ℕ → Type 0 where
  empty : Block [] []
  filled : {content block : List ℕ} (last : List ℕ) → block ≡ content ++ last → 0 < length content → length last ≡ 4 → little_endian last ≡ crc_of content
      → Block content block

-- Two words of eight bytes, block and body; bytes past them are not looked at. The first word is length times 256 plus compression type 0, the
-- second the body's offset, and the entry total is the length of the block's content.
pub record AcceptableBatch (s : List ℕ) (signature : ℕ) (block body : List ℕ) (xs : List LogItem) (rows : List EntryIndex) (total : ℕ) (bytes : List ℕ) : Type 0 where
  pub first : List ℕ
  pub second : List ℕ
  pub past : List ℕ
  pub content : List ℕ
  pub split : s ≡ first ++ second ++ block ++ body ++ past
  pub eight : (length first ≡ 8) × (length second ≡ 8)
  pub whole : big_endian first ≡ (16 + length block + length body) * 256
  pub offset : big_endian second ≡ 16 + length block
  pub sealed : Block content block
  pub agrees : total ≡ length content
  pub acceptable : Acceptable body signature xs rows total bytes
