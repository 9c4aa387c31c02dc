-- A batch that was written, read again: its frame, its block and its body, whatever stands behind it.
-- Assumes nothing.
use Rattle.std.proofs.Common.{◌≡◌, ℕ, ◌+◌, ◌*◌, ◌^◌, ◌<◌, Bool, true, false, eqb, List, [], ◌∷◌, ◌++◌, length, take, drop, sym, refl, ap, ◌∙◌, append_assoc, mod-eq_of_lt, arith, eqb-true}
use lib.Bits.{xor_zero_r}
use lib.Seq.{take-append_seam}
use borrow.Author.Tests.{eqb-false}
use Rattle.words.specs.Word.{big_endian, big_endian_bytes, little_endian_bytes}
use Rattle.words.proofs.Words.{length_big, length_little, big_endian_back, little_endian_back}
use Rattle.refusal.specs.First.{fine}
use Rattle.crc.specs.Crc.{crc_of}
use Rattle.words.specs.Byte.{Bytes}
use Rattle.crc.proofs.Laws.{crc_lt}
use Rattle.log_item.specs.Got.{got}
use Rattle.log_batch.specs.Seal.{seal_check, block_check, sealed_length}
use Rattle.log_batch.specs.Front.{block_bytes, body_offset, header_bytes, front_bytes}
use Rattle.log_batch.proofs.Planning.{filled_block, block_empty, block_filled}
use Rattle.log_batch.specs.Header.{header}
use Rattle.log_batch.specs.Batch.{block_of, body_of, front_batch}
use Rattle.log_batch.specs.Written.{framed, frame_of}
use Rattle.log_batch.proofs.Sealing.{sealed_of, block_none, block_some}
use Rattle.log_batch.proofs.Parts.{behind_words, block_there, body_there, header_there, front_there}

-- The bytes of a block pass its check.
block_good : (content : List ℕ) → Bytes content → block_check (block_bytes content) ≡ fine
block_good content bytes = go (eqb (length content) 0) refl
  where
    go : (b : Bool) → eqb (length content) 0 ≡ b → block_check (block_bytes content) ≡ fine
    go true e = let z = eqb-true (length content) 0 e in block_none (block_bytes content) (omega (arith, block_empty content z))
    go false e =
        let some : length content ≡ 0 → ⊥ = eqb-false (length content) 0 e in
        let whole = filled_block content some in
        let word : List ℕ = little_endian_bytes 4 (crc_of content) in
        let back = little_endian_back 4 (crc_of content) (crc_lt content bytes) ∙ sym (xor_zero_r (crc_of content)) in
        let good = sealed_of content word 0 (omega arith) (length_little 4 (crc_of content)) back in
        let long : length (block_bytes content) ≡ 0 → ⊥ = λ z. omega (arith, block_filled content some) in
        block_some (block_bytes content) long ∙ ap (λ (l : List ℕ). seal_check l 0) whole ∙ good

-- The content of a block is as long as it was.
pub content_size : (content : List ℕ) → sealed_length (block_bytes content) ≡ length content
content_size content = go (eqb (length content) 0) refl
  where
    go : (b : Bool) → eqb (length content) 0 ≡ b → sealed_length (block_bytes content) ≡ length content
    go true e = let z = eqb-true (length content) 0 e in omega (arith, block_empty content z)
    go false e = omega (arith, block_filled content (eqb-false (length content) 0 e))

-- A block begins with its content.
content_first : (content rest : List ℕ) → take (length content) (block_bytes content ++ rest) ≡ content
content_first [] rest = refl
content_first (b ∷ bs) rest =
    let word : List ℕ = little_endian_bytes 4 (crc_of (b ∷ bs)) in
    let whole = filled_block (b ∷ bs) (λ z. omega arith) in
    ap (λ (l : List ℕ). take (length (b ∷ bs)) (l ++ rest)) whole ∙ ap (take (length (b ∷ bs))) (append_assoc (b ∷ bs) word rest)
    ∙ take-append_seam (b ∷ bs) (word ++ rest)

module _ (content body t : List ℕ) where
  abbrev offset : ℕ
  offset = body_offset content

  abbrev len : ℕ
  len = offset + length body

  -- Its two words.
  abbrev first : List ℕ
  first = big_endian_bytes 8 (len * 256)

  abbrev second : List ℕ
  second = big_endian_bytes 8 offset

  eight : length first ≡ 8
  eight = length_big 8 (len * 256)

  eight_more : length second ≡ 8
  eight_more = length_big 8 offset

  pub block_again : block_of (frame_of content body) (framed content body ++ t) ≡ block_bytes content
  unfolding framed front_bytes header_bytes
  block_again = block_there first second (block_bytes content) body t eight eight_more

  pub body_again : body_of (frame_of content body) (framed content body ++ t) ≡ body
  unfolding framed front_bytes header_bytes
  body_again = body_there first second (block_bytes content) body t eight eight_more

  pub content_again : take (length content) (drop 16 (framed content body ++ t)) ≡ content
  unfolding framed front_bytes header_bytes
  content_again =
      ap (take (length content)) (behind_words first second (block_bytes content) body t eight eight_more) ∙ content_first content (body ++ t)

  module _ (small : body_offset content + length body < 2 ^ 56) where
    whole : big_endian first ≡ len * 256
    whole = big_endian_back 8 (len * 256) ∙ mod-eq_of_lt (omega arith)

    starts : big_endian second ≡ offset
    starts = big_endian_back 8 offset ∙ mod-eq_of_lt (omega arith)

    pub header_again : header (framed content body ++ t) 0 ≡ got (frame_of content body) 16
    unfolding framed front_bytes header_bytes
    header_again = header_there first second (block_bytes content) body t eight eight_more whole starts

    pub front_again : Bytes content → front_batch (framed content body ++ t) 0 ≡ got (frame_of content body) 16
    unfolding framed front_bytes header_bytes
    front_again bytes = front_there first second (block_bytes content) body t eight eight_more whole starts (block_good content bytes)
