-- What the whole-batch writer answers to a measured body, and what it leaves before it in the buffer: header, block.
-- Assumes nothing.
use Rattle.std.specs.Prelude.{◌≡◌, ℕ, ◌+◌, ◌*◌, cond, not, ◌&&◌, List, [], ◌++◌, length, ◌==◌, nat_le, Result, Ok, Err}
use Rattle.refusal.specs.First.{◌else◌, ◌>>◌, ◌>>=◌}
use Rattle.refusal.specs.declared.Reason.TheVariants.{BlockDiffers, OutputShort, OutputTooLong}
use Rattle.refusal.specs.declared.Refusal.{Refusal}
use Rattle.words.specs.Word.{big_endian_bytes}
use Rattle.list_writer.specs.declared.Measured.{Measured}
use Rattle.list_writer.specs.Bytes.{footed}
use Rattle.list_writer.specs.Refusing.{refused}
use Rattle.list_writer.specs.Answers.{laid}

-- empty, or content and its unsigned checksum: the footer under signature 0
unfoldable pub block_bytes : List ℕ → List ℕ
block_bytes content = cond (length content == 0) [] (footed 0 content)

-- where the body stands: behind the header and the block
abbrev pub body_offset : List ℕ → ℕ
body_offset content = 16 + length (block_bytes content)

-- length times 256 plus compression type 0, and the body's offset
unfoldable pub header_bytes : ℕ → ℕ → List ℕ
header_bytes len offset = big_endian_bytes 8 (len * 256) ++ big_endian_bytes 8 offset

-- what stands before the body of a batch of this length: header and block
unfoldable pub front_bytes : ℕ → List ℕ → List ℕ
front_bytes len content = header_bytes len (body_offset content) ++ block_bytes content

-- nothing where there are no items and no content; else the body's refusals and its 22; nothing for a body of no bytes, which no measure
-- gives; 22 for the entry total, 20, 21
unfoldable pub batch_encoded : Result Measured Refusal → ℕ → List ℕ → ℕ → Result ℕ Refusal
batch_encoded m items content room = do
  not (items == 0 && length content == 0) else Ok 0
  b ← m
  not (b.length == 0) else Ok 0
  nat_le b.total 2147483647 else refused OutputTooLong 0
  (b.total == length content) else refused BlockDiffers 0
  nat_le (body_offset content + b.length) room else refused OutputShort 0
  Ok (body_offset content + b.length)

-- the length of a body that is not refused
abbrev pub measured_length : Result Measured Refusal → ℕ
measured_length (Ok b) = b.length
measured_length (Err r) = 0

-- the same for a measure of any length: no body has more than 4294967295 bytes
unfoldable pub front_encoded : Result Measured Refusal → ℕ → List ℕ → ℕ → Result ℕ Refusal
front_encoded m items content room = do
  nat_le (measured_length m) 4294967295 else refused OutputTooLong 0
  batch_encoded m items content room

-- how many bytes an answer says that a batch has; a refused one has none
abbrev pub written_length : Result ℕ Refusal → ℕ
written_length (Ok n) = n
written_length (Err r) = 0

-- the answer r to a body of the measure m, and the later contents of out: header and block, then what stood there; out as it was where
-- nothing is written
pub record FrontWritten (m : Result Measured Refusal) (items : ℕ) (content out : List ℕ) (r : Result ℕ Refusal) (later : List ℕ) : Type 0 where
  pub answer : r ≡ front_encoded m items content (length out)
  pub front : later ≡ laid r out 0 (front_bytes (written_length r) content)
