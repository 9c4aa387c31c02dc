-- What a right seal is, and what a seal says of its body's reading.
-- Assumes nothing.
use Rattle.std.proofs.Common.{◌≡◌, ℕ, ◌+◌, ◌<◌, ◌≤◌, eqb, ltb, List, ◌++◌, length, drop, Some, Err, ap, arith, length-append, length-drop, take_all, take_at, drop_at, ltb-true, le-ltb, lt-ltb, eq-eqb, eqb-true, ne_eqb, le-leb}
use lib.Bits.{bit_xor}
use Rattle.refusal.specs.First.{fine}
use Rattle.refusal.specs.declared.Reason.{Reason}
use Rattle.refusal.specs.declared.Reason.TheVariants.{ChecksumWrong, NoContent}
use Rattle.words.specs.Word.{little_endian, piece, read_u32}
use Rattle.crc.specs.Crc.{crc_of}
use Rattle.log_item.specs.declared.Form.TheVariants.{Any}
use Rattle.log_batch.specs.Seal.{sealed_length, sealed_part, footer, seal_check, block_check}
use Rattle.log_batch.specs.Reading.{rejected, read_items}
use Rattle.log_batch.specs.Body.{read_body}
use Rattle.list_writer.proofs.Heads.{else_fine}

-- The word at the last four bytes is the footer.
pub footer_read : (b : List ℕ) → 4 < length b → read_u32 b (sealed_length b) ≡ Some (piece (footer b) (sealed_length b + 4))
unfolding read_u32
footer_read b long =
    let fits : sealed_length b + 4 ≤ length b = omega arith in
    let four : length (drop (sealed_length b) b) ≤ 4 = omega (arith, length-drop (sealed_length b) b) in
    rw (le-leb _ _ fits, take_all 4 (drop (sealed_length b) b) four)

-- ---- where a seal is refused

pub seal_short : (b : List ℕ) (signature : ℕ) → length b ≤ 4 → seal_check b signature ≡ Err NoContent
unfolding seal_check
seal_short b signature h = rw (le-ltb _ _ h)

pub seal_wrong : (b : List ℕ) (signature : ℕ) → 4 < length b → (footer b ≡ bit_xor (crc_of (sealed_part b)) signature → ⊥)
    → seal_check b signature ≡ Err ChecksumWrong
unfolding seal_check
seal_wrong b signature long other = rw (lt-ltb _ _ long, ne_eqb _ _ other)

-- ---- a right seal

-- The seal of bytes is right: there are more than four, and the last four are the checksum of the others XORed with the signature.
pub record Sealed (b : List ℕ) (signature : ℕ) : Type 0 where
  pub long : 4 < length b
  pub right : footer b ≡ bit_xor (crc_of (sealed_part b)) signature

-- Bytes that pass both checks have a right seal.
pub sealed : (b : List ℕ) (signature : ℕ) → seal_check b signature ≡ fine → Sealed b signature
unfolding seal_check
sealed b signature e =
    let p = else_fine (ltb 4 (length b)) _ _ e in
    let q = else_fine (eqb (footer b) (bit_xor (crc_of (sealed_part b)) signature)) _ _ p.1 in
    record { long = ltb-true _ _ p.0; right = eqb-true _ _ q.0 }

-- A seal that is not broken has more than four bytes.
pub seal_long : (b : List ℕ) (signature : ℕ) → seal_check b signature ≡ fine → 4 < length b
seal_long b signature e = (sealed b signature e).long

-- Of a part and four bytes behind it, the sealed part and the footer are these.
pub part_of : (rest last : List ℕ) → length last ≡ 4 → sealed_part (rest ++ last) ≡ rest
part_of rest last four =
    let long : length rest ≡ sealed_length (rest ++ last) = omega (arith, length-append rest last) in
    take_at rest last _ long

pub footer_of_lem : (rest last : List ℕ) → length last ≡ 4 → footer (rest ++ last) ≡ little_endian last
footer_of_lem rest last four =
    let long : length rest ≡ sealed_length (rest ++ last) = omega (arith, length-append rest last) in
    ap little_endian (drop_at rest last _ long)

-- Where the part is not empty and the four bytes are its checksum XOR the signature, the seal is right.
pub sealed_of : (rest last : List ℕ) (signature : ℕ) → 0 < length rest → length last ≡ 4 → little_endian last ≡ bit_xor (crc_of rest) signature
    → seal_check (rest ++ last) signature ≡ fine
unfolding seal_check
sealed_of rest last signature some four checks =
    let long : 4 < length (rest ++ last) = omega (arith, length-append rest last) in
    rw (lt-ltb _ _ long, part_of rest last four, footer_of_lem rest last four, eq-eqb _ _ checks)

-- ---- a block

pub block_none : (b : List ℕ) → length b ≡ 0 → block_check b ≡ fine
unfolding block_check
block_none b h = rw (eq-eqb _ _ h)

pub block_some : (b : List ℕ) → (length b ≡ 0 → ⊥) → block_check b ≡ seal_check b 0
unfolding block_check
block_some b h = rw (ne_eqb _ _ h)

-- ---- the reading of a body

module _ (b : List ℕ) (signature : ℕ) where
  -- A broken seal is what the body's reading answers; behind a good one it is what stands before the footer.
  pub body_refused : {r : Reason} → seal_check b signature ≡ Err r → read_body b signature ≡ rejected r 0
  unfolding read_body
  body_refused e = rw e

  pub body_sealed : seal_check b signature ≡ fine → read_body b signature ≡ read_items Any (sealed_part b)
  unfolding read_body
  body_sealed e = rw e
