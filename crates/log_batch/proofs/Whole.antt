-- What document 01 says of whole batches that are read, proved of the definitions that the contracts cite.
-- Assumes nothing.
use Rattle.std.proofs.Common.{◌≡◌, ℕ, ◌+◌, ◌-◌, ◌≤◌, Bool, true, false, cond, eqb, ◌↔◌, List, ◌++◌, length, take, drop, Some, None, refl, ap, ap₂, arith, length-append, length-drop, eq-eqb, eqb-true, le-leb}
use Rattle.refusal.specs.declared.Refusal.{Refusal}
use Rattle.refusal.specs.declared.Reason.TheVariants.{BlockDiffers}
use lib.Seq.{take-append-le, drop-append-le}
use Rattle.words.specs.Word.{big_endian}
use Rattle.log_batch.specs.Seal.{sealed_length}
use Rattle.log_item.specs.Got.{Got, got, refused}
use Rattle.log_item.specs.declared.Span.{Span}
use Rattle.log_item.specs.declared.LogItem.{LogItem}
use Rattle.log_item.specs.declared.EntryIndex.{EntryIndex}
use Rattle.log_batch.specs.Reading.{accepted, rejected, Answer}
use Rattle.log_batch.specs.Body.{read_body}
use Rattle.log_batch.specs.Total.{agreeing}
use Rattle.log_batch.specs.Table.{table_of, empty_table}
use Rattle.log_batch.specs.declared.LogBatch.{LogBatch}
use Rattle.log_batch.specs.Header.{frame, header}
use Rattle.log_batch.specs.Batch.{block_of, body_of, front_batch, batch_answer, body_place, block_place, read_batch}
use Rattle.log_batch.proofs.Frames.{header_known, front_known}

-- A table with no refusal is that of an accepted answer with the entry total that is wanted.
module _ (body block : Span) (n : ℕ) where
  same : (xs : List LogItem) (rows : List EntryIndex) (u q : ℕ) (b : Bool) → eqb u n ≡ b
      → (table_of body block (cond b (accepted xs rows u q) (rejected BlockDiffers 0))).refusal ≡ None → u ≡ n
  unfolding table_of
  same xs rows u q true e z = eqb-true u n e
  same xs rows u q false e z = cc

  total_agrees : (a : Answer) → (table_of body block (agreeing (Some n) a)).refusal ≡ None
      → (xs : List LogItem) × (rows : List EntryIndex) × (q : ℕ) × (a ≡ accepted xs rows n q)
  unfolding table_of
  total_agrees (accepted xs rows u q) z = (xs, rows, q, ap (λ (k : ℕ). accepted xs rows k q) (same xs rows u q (eqb u n) refl z))
  total_agrees (rejected r i) z = cc

module _ (s : List ℕ) (signature : ℕ) where
  -- What a refused reading hands back is the empty table with its refusal.
  pub refused_batch_empty : {x : Refusal} → (read_batch s signature).refusal ≡ Some x → read_batch s signature ≡ empty_table (Some x)
  unfolding read_batch table_of
  refused_batch_empty {x} = let g = front_batch s 0 in empty (body_place g) (block_place g) (batch_answer s signature g)
    where
      empty : (body block : Span) (a : Answer) → (table_of body block a).refusal ≡ Some x → table_of body block a ≡ empty_table (Some x)
      empty body block (accepted xs rows u q) h = cc
      empty body block (rejected r i) h = ap empty_table h

  -- The body of a whole batch is read as it is by itself; then its entry total is held to the block's content.
  pub body_read : {h : LogBatch} {q : ℕ} → front_batch s 0 ≡ got h q
      → read_batch s signature ≡ table_of (record { at = h.offset; len = h.len - h.offset }) (record { at = 16; len = h.offset - 16 })
      (agreeing (Some (sealed_length (block_of h s))) (read_body (body_of h s) signature))
  unfolding read_batch
  body_read e = rw e

  -- A whole batch is accepted, so that it has no refusal, exactly when header, length, compression type and block are right and its body, its checksum
  -- with it, is accepted with an entry total that is the length of the block's content.
  pub batch_exactly :
      ((read_batch s signature).refusal ≡ None)
      ↔ ((h : LogBatch) × (q : ℕ) × (front_batch s 0 ≡ got h q)
      × ((xs : List LogItem) × (rows : List EntryIndex) × (p : ℕ) × (read_body (body_of h s) signature ≡ accepted xs rows (sealed_length (block_of h s)) p)))
  unfolding read_batch table_of
  batch_exactly = (λ z. only (front_batch s 0) refl z, λ k. rw (k.2, k.3.3, eq-eqb (sealed_length (block_of k.0 s)) (sealed_length (block_of k.0 s)) refl))
    where
      only : (g : Got LogBatch) → front_batch s 0 ≡ g → (table_of (body_place g) (block_place g) (batch_answer s signature g)).refusal ≡ None
          → (h : LogBatch) × (q : ℕ) × (front_batch s 0 ≡ got h q)
          × ((xs : List LogItem) × (rows : List EntryIndex) × (p : ℕ) × (read_body (body_of h s) signature ≡ accepted xs rows (sealed_length (block_of h s)) p))
      only (refused r) e z = cc
      only (got h q) e z =
          let k = total_agrees (body_place (got h q)) (block_place (got h q)) (sealed_length (block_of h s)) (read_body (body_of h s) signature) z in
          (h, q, e, k)

-- Bytes past the length are not looked at.
module _ (a t : List ℕ) (signature : ℕ) {h : LogBatch} {q : ℕ} (e : header a 0 ≡ got h q) (whole : h.len ≡ length a) where
  long : length (a ++ t) ≡ length a + length t
  long = length-append a t

  front : (n m : ℕ) → m + n ≤ length a → take n (drop m (a ++ t)) ≡ take n (drop m a)
  front n m l =
      let inside : m ≤ length a = omega arith in
      let room : n ≤ length (drop m a) = omega (arith, length-drop m a) in
      rw (drop-append-le m a t inside) (take-append-le n (drop m a) t room)

  same_header : header (a ++ t) 0 ≡ header a 0
  unfolding header
  same_header =
      let k = header_known a e in
      let some : 16 ≤ length a = omega arith in
      let more : 16 ≤ length (a ++ t) = omega (arith, long) in
      rw (le-leb _ _ some, le-leb _ _ more) (ap₂ (λ (x y : List ℕ). frame (big_endian x) (big_endian y) 0) (front 8 0 (omega arith)) (front 8 8 (omega arith)))

  same_front : front_batch (a ++ t) 0 ≡ front_batch a 0
  unfolding front_batch
  same_front =
      let k = header_known a e in
      let some : h.len ≤ length a = omega arith in
      let more : h.len ≤ length (a ++ t) = omega (arith, long) in
      let block : block_of h (a ++ t) ≡ block_of h a = front (h.offset - 16) 16 (omega arith) in
      rw (same_header, e, le-leb _ _ some, le-leb _ _ more, block)

  same_answer : (g : Got LogBatch) → front_batch a 0 ≡ g → batch_answer (a ++ t) signature g ≡ batch_answer a signature g
  same_answer (got x p) f =
      let k = front_known a f in
      let block : block_of x (a ++ t) ≡ block_of x a = front (x.offset - 16) 16 (omega (arith, k.start, k.inside, k.there)) in
      let body : body_of x (a ++ t) ≡ body_of x a = front (x.len - x.offset) x.offset (omega (arith, k.inside, k.there)) in
      rw (block, body)
  same_answer (refused r) f = refl

  pub past_ignored : read_batch (a ++ t) signature ≡ read_batch a signature
  unfolding read_batch
  past_ignored = let g = front_batch a 0 in rw same_front (ap (table_of (body_place g) (block_place g)) (same_answer g refl))
