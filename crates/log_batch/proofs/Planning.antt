-- What a whole batch comes to before it is written: the lengths of its parts, what its answer tells, and where it is refused.
-- Assumes nothing.
use Rattle.std.proofs.Common.{◌≡◌, ℕ, ◌+◌, ◌*◌, ◌<◌, ◌≤◌, Bool, true, false, cond, not, ◌&&◌, eqb, leb, ◌⊎◌, List, [], ◌++◌, length, Result, Ok, Err, refl, sym, ap, ◌∙◌, inl, inr, arith, length-append, eq-eqb, ne_eqb, eqb-true, le-leb, leb-true}
use mathlib.Core.Bool.{and-false}
use lib.Bits.{xor_zero_r}
use borrow.Author.Tests.{lt-leb, eqb-false}
use Rattle.words.specs.Word.{big_endian_bytes, little_endian_bytes}
use Rattle.words.proofs.Words.{length_big, length_little}
use Rattle.crc.specs.Crc.{crc_of}
use Rattle.refusal.specs.declared.Reason.TheVariants.{BlockDiffers, OutputShort, OutputTooLong}
use Rattle.refusal.specs.declared.Refusal.{Refusal}
use Rattle.refusal.proofs.First.{not_second}
use Rattle.list_writer.specs.declared.Measured.{Measured}
use Rattle.list_writer.specs.Bytes.{footed}
use Rattle.list_writer.proofs.Heads.{else_fine}
use Rattle.list_writer.specs.Refusing.{refused}
use Rattle.log_batch.specs.Front.{block_bytes, body_offset, header_bytes, front_bytes, batch_encoded}

-- ---- lengths

pub empty_block : (content : List ℕ) → length content ≡ 0 → block_bytes content ≡ []
unfolding block_bytes
empty_block content h = rw (eq-eqb (length content) 0 h)

pub filled_block : (content : List ℕ) → (length content ≡ 0 → ⊥) → block_bytes content ≡ content ++ little_endian_bytes 4 (crc_of content)
unfolding block_bytes footed
filled_block content h = rw (ne_eqb (length content) 0 h, xor_zero_r (crc_of content))

pub block_empty : (content : List ℕ) → length content ≡ 0 → 16 ≡ body_offset content
block_empty content h = omega (arith, ap length (empty_block content h))

pub block_filled : (content : List ℕ) → (length content ≡ 0 → ⊥) → 16 + length content + 4 ≡ body_offset content
block_filled content h =
    let word : List ℕ = little_endian_bytes 4 (crc_of content) in
    omega (arith, ap length (filled_block content h), length-append content word, length_little 4 (crc_of content))

pub block_small : (content : List ℕ) → length (block_bytes content) ≤ length content + 4
block_small content = go (eqb (length content) 0) refl
  where
    go : (b : Bool) → eqb (length content) 0 ≡ b → length (block_bytes content) ≤ length content + 4
    go true e = omega (arith, block_empty content (eqb-true (length content) 0 e))
    go false e = omega (arith, block_filled content (eqb-false (length content) 0 e))

pub header_length : (len offset : ℕ) → length (header_bytes len offset) ≡ 16
unfolding header_bytes
header_length len offset =
    length-append (big_endian_bytes 8 (len * 256)) (big_endian_bytes 8 offset) ∙ omega (arith, length_big 8 (len * 256), length_big 8 offset)

pub front_length : (len : ℕ) (content : List ℕ) → length (front_bytes len content) ≡ body_offset content
unfolding front_bytes
front_length len content =
    length-append (header_bytes len (body_offset content)) (block_bytes content) ∙ omega (arith, header_length len (body_offset content))

-- ---- the answer

-- What an answer of some bytes tells of the body's measure.
pub record Planned (b : Measured) (content : List ℕ) (room n : ℕ) : Type 0 where
  pub few : length content ≤ 2147483647
  pub total : b.total ≡ length content
  pub size : n ≡ body_offset content + b.length
  pub fits : n ≤ room

module _ (items : ℕ) (content : List ℕ) (room : ℕ) {n : ℕ} where
  planned_body : (b : Measured) → batch_encoded (Ok b) 1 content room ≡ Ok n → (n ≡ 0 → ⊥) → Planned b content room n
  unfolding batch_encoded
  planned_body b e h =
      let size : ℕ = body_offset content + b.length in
      let some = not_second (not (eqb b.length 0)) (sym e) (λ z. let w : n ≡ 0 = cc in h w) in
      let p = else_fine (leb b.total 2147483647) _ _ (sym some.1) in
      let q = else_fine (eqb b.total (length content)) _ _ p.1 in
      let r = else_fine (leb size room) _ _ q.1 in
      let few = leb-true b.total 2147483647 p.0 in
      let same = eqb-true b.total (length content) q.0 in
      let fits = leb-true size room r.0 in
      let long : size ≡ n = cc r.1 in
      record { few = omega arith; total = same; size = omega arith; fits = omega arith }

  pub planned : (m : Result Measured Refusal) → batch_encoded m items content room ≡ Ok n → (n ≡ 0 → ⊥)
      → (b : Measured) × (m ≡ Ok b) × Planned b content room n
  unfolding batch_encoded
  planned m told h = go (not (eqb items 0 && eqb (length content) 0)) m refl told
    where
      go : (c : Bool) (k : Result Measured Refusal) → m ≡ k → cond c (batch_encoded k 1 content room) (Ok 0) ≡ Ok n
          → (b : Measured) × (m ≡ Ok b) × Planned b content room n
      go true (Ok b) e f = (b, e, planned_body b f h)
      go true (Err r) e f = cc
      go false k e f = let z : 0 ≡ n = cc in absurd (h (omega arith))

  pub plan_of : {m : Result Measured Refusal} {b : Measured} → m ≡ Ok b → batch_encoded m items content room ≡ Ok n → (n ≡ 0 → ⊥) → Planned b content room n
  plan_of {m} {b} e told h = let p = planned m told h in let same : p.0 ≡ b = cc (p.1) in rw same at p.2

-- ---- where it is refused

something : (items content : ℕ) → (items ≡ 0 → ⊥) ⊎ (content ≡ 0 → ⊥) → (eqb items 0 && eqb content 0) ≡ false
something items content (inl h) = rw (ne_eqb items 0 h)
something items content (inr h) = rw (ne_eqb content 0 h) (and-false (eqb items 0))

module _ (b : Measured) (items : ℕ) (content : List ℕ) (room : ℕ) (some : (items ≡ 0 → ⊥) ⊎ (length content ≡ 0 → ⊥)) (long : b.length ≡ 0 → ⊥) where
  pub refused_22 : 2147483647 < b.total → batch_encoded (Ok b) items content room ≡ refused OutputTooLong 0
  unfolding batch_encoded
  refused_22 h = rw (something items (length content) some, ne_eqb b.length 0 long, lt-leb b.total 2147483647 h)

  module _ (few : b.total ≤ 2147483647) where
    pub refused_20 : (b.total ≡ length content → ⊥) → batch_encoded (Ok b) items content room ≡ refused BlockDiffers 0
    unfolding batch_encoded
    refused_20 h = rw (something items (length content) some, ne_eqb b.length 0 long, le-leb b.total 2147483647 few, ne_eqb b.total (length content) h)

    pub refused_21 : b.total ≡ length content → room < body_offset content + b.length → batch_encoded (Ok b) items content room ≡ refused OutputShort 0
    unfolding batch_encoded
    refused_21 same h =
        rw (something items (length content) some, ne_eqb b.length 0 long, le-leb b.total 2147483647 few, eq-eqb b.total (length content) same, lt-leb _ _ h)
