-- What reading a header, the front of a batch and the whole come to.
-- Assumes nothing.
use Rattle.std.proofs.Common.{◌≡◌, ℕ, ◌-◌, ◌/◌, ◌%◌, ◌<◌, ◌≤◌, List, length, take, drop, true, false, is_some, Some, Ok, Err, sym, refl, ap, ◌∙◌, arith, length-drop, length-take, eq-eqb, ne_eqb, le-leb}
use borrow.Author.Tests.{lt-leb}
use Rattle.refusal.specs.First.{Checked, fine}
use Rattle.refusal.specs.declared.Reason.{Reason}
use Rattle.refusal.specs.declared.Reason.TheVariants.{BatchShort, BlockDiffers, Compressed, CompressionUnknown, HeaderShort, OffsetAboveLength, OffsetBelowHeader}
use Rattle.refusal.specs.declared.Refusal.{Refusal}
use Rattle.refusal.specs.Number.{refusal_of}
use Rattle.words.specs.Word.{big_endian}
use Rattle.log_item.specs.Got.{got, refused}
use Rattle.log_item.specs.declared.Span.{Span}
use Rattle.log_item.proofs.Holds.{Holds, holds, refuses, after, later, at_most, equal, of_got}
use Rattle.log_batch.specs.declared.LogItemBatch.{LogItemBatch}
use Rattle.log_batch.specs.Reading.{Answer, accepted, rejected}
use Rattle.log_batch.specs.Body.{read_body}
use Rattle.log_batch.specs.Seal.{block_check, sealed_length}
use Rattle.log_batch.specs.Total.{agreeing}
use Rattle.log_batch.specs.Table.{empty_table, table_of}
use Rattle.log_batch.specs.declared.LogBatch.{LogBatch}
use Rattle.log_batch.specs.Header.{frame, header}
use Rattle.log_batch.specs.Batch.{block_of, body_of, passing, front_batch, read_batch}

-- ---- the header

module _ (first second : ℕ) where
  pub frame_type : 1 < first % 256 → frame first second 0 ≡ refused CompressionUnknown
  unfolding frame
  frame_type h = rw (lt-leb _ _ h)

  module _ (known : first % 256 ≤ 1) where
    pub frame_above : first / 256 < second → frame first second 0 ≡ refused OffsetAboveLength
    unfolding frame
    frame_above h = rw (le-leb _ _ known, lt-leb _ _ h)

    module _ (inside : second ≤ first / 256) where
      pub frame_below : second < 16 → frame first second 0 ≡ refused OffsetBelowHeader
      unfolding frame
      frame_below h = rw (le-leb _ _ known, le-leb _ _ inside, lt-leb _ _ h)

      pub frame_good : 16 ≤ second → frame first second 0 ≡ got (record { offset = second; len = first / 256; compression = first % 256 }) 16
      unfolding frame
      frame_good h = rw (le-leb _ _ known, le-leb _ _ inside, le-leb _ _ h)

module _ (s : List ℕ) where
  pub header_short : length s < 16 → header s 0 ≡ refused HeaderShort
  unfolding header
  header_short h = rw (lt-leb _ _ h)

  frame_holds : (first second p : ℕ) → Holds (λ h q. (16 ≤ h.offset) × (h.offset ≤ h.len)) (frame first second p)
  unfolding frame
  frame_holds first second p =
      at_most (first % 256) 1 CompressionUnknown _ p λ a.
      at_most second (first / 256) OffsetAboveLength _ p λ b.
      at_most 16 second OffsetBelowHeader _ p λ c.
      holds (c, b)

  header_holds : (p : ℕ) → Holds (λ h q. (16 ≤ h.offset) × (h.offset ≤ h.len)) (header s p)
  unfolding header
  header_holds p = at_most 16 (length s) HeaderShort _ p λ a. frame_holds (big_endian (take 8 s)) (big_endian (take 8 (drop 8 s))) p

  -- The body starts after the header and in the batch.
  pub header_known : {h : LogBatch} {q : ℕ} → header s 0 ≡ got h q → (16 ≤ h.offset) × (h.offset ≤ h.len)
  header_known e = of_got (header_holds 0) e

  -- ---- the batch up to its block

  module _ {h : LogBatch} {q : ℕ} (e : header s 0 ≡ got h q) where
    pub front_short : length s < h.len → front_batch s 0 ≡ refused BatchShort
    unfolding front_batch
    front_short k = rw (e, lt-leb _ _ k)

    module _ (there : h.len ≤ length s) where
      pub front_compressed : (h.compression ≡ 0 → ⊥) → front_batch s 0 ≡ refused Compressed
      unfolding front_batch
      front_compressed k = rw (e, le-leb _ _ there, ne_eqb _ _ k)

      pub front_good : h.compression ≡ 0 → block_check (block_of h s) ≡ fine → front_batch s 0 ≡ got h q
      unfolding front_batch
      front_good none good = rw (e, le-leb _ _ there, eq-eqb _ _ none, good)

  -- Its body starts after the header and lies in the bytes.
  pub record Front (h : LogBatch) : Type 0 where
    pub start : 16 ≤ h.offset
    pub inside : h.offset ≤ h.len
    pub there : h.len ≤ length s

  front_holds : (p : ℕ) → Holds (λ h q. Front h) (front_batch s p)
  unfolding front_batch
  front_holds p =
      after (header_holds p) λ h q k.
      at_most h.len (length s) BatchShort _ q λ there.
      equal h.compression 0 Compressed _ q λ none.
      later (passing (block_check (block_of h s)) q) λ u z.
      holds (record { start = k.0; inside = k.1; there = there })

  pub front_known : {h : LogBatch} {q : ℕ} → front_batch s 0 ≡ got h q → Front h
  front_known e = of_got (front_holds 0) e

  -- The block has as much content as its length leaves beside a checksum.
  pub content_known : {h : LogBatch} {q : ℕ} → front_batch s 0 ≡ got h q → sealed_length (block_of h s) ≡ h.offset - 16 - 4
  content_known {h} e =
      let g = front_known e in
      omega (arith, g.start, g.inside, g.there, length-take (h.offset - 16) (drop 16 s), length-drop 16 s)

-- A check that holds, between two readings.
pub passing_holds : (c : Checked Reason) (p : ℕ) → Holds (λ u q. c ≡ Ok u) (passing c p)
passing_holds (Ok u) p = holds refl
passing_holds (Err r) p = refuses

-- ---- the table

pub table_refused : (s : List ℕ) (signature : ℕ) {r : Reason} {x : Refusal} {t : LogItemBatch} → front_batch s 0 ≡ refused r
    → t ≡ empty_table (Some x) → x ≡ refusal_of r 0 → t ≡ read_batch s signature
unfolding read_batch table_of
table_refused s signature e f h = rw (e, ← h) f

-- Where the front is right, the table is that of the body's reading, whose entry total is held to the block.
table_of_lem : (s : List ℕ) (signature : ℕ) {h : LogBatch} {q : ℕ} → front_batch s 0 ≡ got h q
    → read_batch s signature ≡ table_of (record { at = h.offset; len = h.len - h.offset }) (record { at = 16; len = h.offset - 16 })
    (agreeing (Some (h.offset - 16 - 4)) (read_body (body_of h s) signature))
unfolding read_batch
table_of_lem s signature e = rw (e, content_known s e)

-- a table with other places
abbrev pub with_places : Span → Span → LogItemBatch → LogItemBatch
with_places body block t =
    record {
      items = t.items;
      item_count = t.item_count;
      entries = t.entries;
      entry_count = t.entry_count;
      total = t.total;
      next = t.next;
      body = body;
      block = block;
      refusal = t.refusal;
    }

module _ (body block : Span) (n : ℕ) where
  -- A refusal stays as it is.
  held_refused : (k l : Span) (a : Answer) {t : LogItemBatch} → t ≡ table_of k l a → true ≡ is_some t.refusal → t ≡ table_of body block (agreeing (Some n) a)
  unfolding table_of
  held_refused k l (accepted xs rows u q) e h = let z = ap (λ (x : LogItemBatch). is_some x.refusal) e in cc
  held_refused k l (rejected r i) e h = e

  -- Another total is a 20.
  held_other : (k l : Span) (a : Answer) {t x : LogItemBatch} {y : Refusal} → t ≡ table_of k l a → false ≡ is_some t.refusal → (t.total ≡ n → ⊥)
      → x ≡ empty_table (Some y) → y ≡ refusal_of BlockDiffers 0 → x ≡ table_of body block (agreeing (Some n) a)
  unfolding table_of
  held_other k l (accepted xs rows u q) e none other f h =
      let o : u ≡ n → ⊥ = λ z. other (ap (λ (y : LogItemBatch). y.total) e ∙ z) in
      rw (ne_eqb u n o, ← h) f
  held_other k l (rejected r i) e none other f h = let z = ap (λ (x : LogItemBatch). is_some x.refusal) e in cc

  -- The total that is wanted: the places are stated.
  held_same : (k l : Span) (a : Answer) {t : LogItemBatch} → t ≡ table_of k l a → false ≡ is_some t.refusal → t.total ≡ n
      → with_places body block t ≡ table_of body block (agreeing (Some n) a)
  unfolding table_of
  held_same k l (accepted xs rows u q) e none same =
      let o : u ≡ n = sym (ap (λ (y : LogItemBatch). y.total) e) ∙ same in
      rw (eq-eqb u n o) (ap (with_places body block) e)
  held_same k l (rejected r i) e none same = let z = ap (λ (x : LogItemBatch). is_some x.refusal) e in cc

module _ (s : List ℕ) (signature : ℕ) {h : LogBatch} {q : ℕ} (e : front_batch s 0 ≡ got h q) (k l : Span) {t : LogItemBatch}
    (read : t ≡ table_of k l (read_body (body_of h s) signature)) where
  pub table_stays : true ≡ is_some t.refusal → t ≡ read_batch s signature
  table_stays some = held_refused _ _ _ k l (read_body (body_of h s) signature) read some ∙ sym (table_of_lem s signature e)

  module _ (none : false ≡ is_some t.refusal) {n : ℕ} (size : n ≡ h.offset - 16 - 4) where
    pub table_differs : {x : LogItemBatch} {y : Refusal} → (t.total ≡ n → ⊥) → x ≡ empty_table (Some y) → y ≡ refusal_of BlockDiffers 0
        → x ≡ read_batch s signature
    table_differs other f places =
        let o : t.total ≡ h.offset - 16 - 4 → ⊥ = λ z. other (z ∙ sym size) in
        held_other _ _ _ k l (read_body (body_of h s) signature) read none o f places ∙ sym (table_of_lem s signature e)

    pub table_placed : t.total ≡ n
        → with_places (record { at = h.offset; len = h.len - h.offset }) (record { at = 16; len = h.offset - 16 }) t ≡ read_batch s signature
    table_placed same =
        held_same _ _ _ k l (read_body (body_of h s) signature) read none (same ∙ size) ∙ sym (table_of_lem s signature e)
