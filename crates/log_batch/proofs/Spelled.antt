-- What is written of a list is spelled, in shortest numbers, by the list with its places worked out, and so it is read back.
-- Assumes nothing.
use Rattle.std.proofs.Common.{◌≡◌, ℕ, zero, suc, ◌+◌, ◌^◌, ◌<◌, ◌≤◌, Bool, ◌↔◌, List, [], ◌∷◌, ◌++◌, length, take, drop, Ok, Err, sym, refl, ap, ◌∙◌, append-nil, zero-add, arith, lit<, length-append, take_at, lt-ltb, ne_eqb}
use lib.Bits.{bit_xor, xor_lt}
use Rattle.codec.specs.Shortest.{shortest}
use Rattle.words.specs.Word.{little_endian, little_endian_bytes}
use Rattle.words.proofs.Words.{length_little, little_endian_back}
use Rattle.crc.specs.Crc.{crc_of}
use Rattle.words.specs.Byte.{Bytes}
use Rattle.crc.proofs.Laws.{crc_lt}
use Rattle.crc.proofs.Xor.{xor_cancel_l}
use Rattle.log_item.specs.Entries.{entries_of}
use Rattle.log_item.specs.Each.{Each, none, one}
use Rattle.log_item.specs.Limits.{RowFits}
use Rattle.log_batch.specs.Limits.{Within}
use Rattle.log_item.specs.Spelling.{NumberIn}
use Rattle.log_batch.specs.Spelling.{Items, end, then, Spells, list}
use Rattle.words.specs.Place.{At}
use Rattle.log_item.specs.declared.Form.TheVariants.{Any, Plain}
use Rattle.log_item.specs.declared.LogItemContent.{LogItemContent}
use Rattle.log_item.specs.declared.LogItemContent.TheVariants as contents
use Rattle.log_item.specs.declared.LogItem.{LogItem}
use Rattle.log_item.specs.declared.EntryIndex.{EntryIndex}
use Rattle.log_item.proofs.Holds.{of_got}
use Rattle.log_item.proofs.Numbers.{in_any}
use Rattle.words.proofs.Place.{cut, at_front}
use Rattle.log_batch.proofs.Rows.{item_length}
use Rattle.log_item.proofs.Every.{each_append}
use Rattle.log_item.proofs.Sound.{sound_item}
use Rattle.log_item.specs.Refusing.{content_refusal}
use Rattle.log_item.specs.Written.{sum_of, row_lengths, item_bytes}
use Rattle.log_item.specs.Relocated.{stated, content_at, item_at, item_rows_of, numbers_of, Small}
use Rattle.log_item.proofs.Refusals.{content_inside_lem, content_allowed}
use Rattle.log_item.proofs.Spelled.{Writable, first_small, written_item, read_item_at, spans_kept}
use Rattle.refusal.specs.First.{fine}
use Rattle.refusal.specs.declared.Reason.{Reason}
use Rattle.log_item.specs.Blank.{blank_item}
use Rattle.list_writer.specs.Bytes.{items_of, items_bytes, list_bytes, footed, body_bytes}
use Rattle.list_writer.specs.Refusing.{items_verdict, list_verdict}
use Rattle.list_writer.proofs.Measuring.{list_fine}
use Rattle.log_batch.proofs.ListWritten.{items_fine, Encodes, writes, leaves, encodes}
use Rattle.log_batch.specs.declared.LogItemBatch.{LogItemBatch}
use Rattle.log_batch.specs.Reading.{accepted, rejected}
use Rattle.log_batch.specs.Seal.{seal_check}
use Rattle.log_batch.proofs.Sealing.{part_of, footer_of_lem, body_refused}
use Rattle.log_batch.specs.Body.{read_body}
use Rattle.log_batch.specs.Writing as table
use Rattle.log_batch.specs.Writing.{listed, BodyWritten, items_at, rows_at, body_items, body_rows, keys_and_contents, AllSmall}
use Rattle.log_batch.proofs.Listing.{spells_as, spells_some}
use Rattle.log_batch.proofs.Bodies.{complete_body}
use Rattle.log_batch.proofs.WrittenBytes.{AllBytes, bytes_all, shortest_bytes, item_bytes_lem}
use Rattle.refusal.specs.declared.Reason.TheVariants.{ChecksumWrong}

-- ---- an item that is not refused

same_count : (p : ℕ) (k : LogItemContent) → (entries_of (content_at p k)).count ≡ (entries_of k).count
unfolding content_at stated
same_count p (contents.EntryIndexes e) = go e.count
  where
    go : (n : ℕ) → (stated n e.first_index).count ≡ n
    go zero = refl
    go (suc n) = refl
same_count p (contents.Command c) = refl
same_count p (contents.Kv k) = refl

module _ (s : List ℕ) (checked : Bool) (x : LogItem) (ns : List ℕ) (used t : ℕ) (z : Small (x.raft_group_id ∷ numbers_of x.content))
    (low : used ≤ 1024) (e : content_refusal s checked used (used + length ns) x.content ≡ fine) (h : sum_of t (row_lengths x ns) ≤ 4294967295) where
  writable : Writable s x ns t
  writable =
      let lent : used + (entries_of x.content).count ≤ used + length ns = (content_allowed s checked used (used + length ns) x.content e).lent (omega arith) in
      record { spans = content_inside_lem s checked used (used + length ns) x.content e; numbers = z; lent = omega arith; tails = h }

  few : used + (entries_of x.content).count ≤ 1024
  few = (content_allowed s checked used (used + length ns) x.content e).few low

  -- Its rows are within the limits, and as many as it states.
  rows_fit : Each RowFits (item_rows_of x ns t)
  rows_fit =
      let small : (entries_of x.content).first_index < 2 ^ 64 = go z in
      let stands = rw append-nil at (at_front (item_bytes s x ns t) []) in
      let last = (content_allowed s checked used (used + length ns) x.content e).last (omega arith) in
      (of_got (sound_item Any (item_bytes s x ns t) tt used t 0 low) (read_item_at s x ns t writable Any used stands few last)).has.each
    where
      go : Small (x.raft_group_id ∷ numbers_of x.content) → (entries_of x.content).first_index < 2 ^ 64
      go (one g h) = first_small x.content h

  rows_length : length (item_rows_of x ns t) ≡ (entries_of x.content).count
  unfolding item_at
  rows_length = item_length (written_item s x ns t writable 0) ∙ same_count _ x.content

-- ---- items that are not refused

module _ (s : List ℕ) (checked : Bool) where
  -- Items that are not refused are spelled, with their places worked out from the place p on, and their rows are within the limits.
  pub items_written : (xs : List LogItem) (ns : List ℕ) (used k t u p : ℕ) → AllSmall xs → used ≤ 1024
      → items_verdict s checked xs ns used k t ≡ Ok u
      → Items (NumberIn Plain) (items_at s xs ns p t) (rows_at xs ns t) t u p (items_bytes s xs ns t)
      × Each RowFits (rows_at xs ns t)
      × (used + length (rows_at xs ns t) ≤ 1024)
  unfolding items_at rows_at items_verdict items_bytes
  items_written [] ns used k t u p none low h = let e : t ≡ u = cc in rw e (end, none, omega arith)
  items_written (x ∷ xs) ns used k t u p (one z zs) low h =
      let f = items_fine s checked x xs ns used k t u h in
      let n : ℕ = (entries_of x.content).count in
      let rest = items_written xs (drop n ns) (used + n) (k + 1) (sum_of t (row_lengths x ns)) u (p + length (item_bytes s x ns t)) zs (few s checked x ns used t z low f.0 f.1) f.2 in
      let w = writable s checked x ns used t z low f.0 f.1 in
      let rows = rows_fit s checked x ns used t z low f.0 f.1 in
      let long = rows_length s checked x ns used t z low f.0 f.1 in (
        then (written_item s x ns t w p) rest.0,
        each_append rows rest.1,
        omega (arith, rest.2, long, length-append (item_rows_of x ns t) (rows_at xs (drop n ns) (sum_of t (row_lengths x ns)))),
      )

  -- Where their bytes stand, their spans have the bytes that they had in the store.
  pub items_kept : (xs : List LogItem) (ns : List ℕ) (used k t u : ℕ) → AllSmall xs → used ≤ 1024 → items_verdict s checked xs ns used k t ≡ Ok u
      → {b : List ℕ} {p q : ℕ} → At b p q (items_bytes s xs ns t) → keys_and_contents b (items_at s xs ns p t) ≡ keys_and_contents s xs
  unfolding items_at items_bytes
  items_kept [] ns used k t u none low h f = refl
  items_kept (x ∷ xs) ns used k t u (one z zs) low h {b} {p} f =
      let g = items_fine s checked x xs ns used k t u h in
      let n : ℕ = (entries_of x.content).count in
      let c = cut (item_bytes s x ns t) f in
      let w = writable s checked x ns used t z low g.0 g.1 in
      let first = spans_kept s x ns t w c.0 in
      let rest = items_kept xs (drop n ns) (used + n) (k + 1) (sum_of t (row_lengths x ns)) u zs (few s checked x ns used t z low g.0 g.1) g.2 c.1 in
      cc

  -- They are written in bytes where the store is bytes.
  pub items_bytes_lem : Bytes s → (xs : List LogItem) (ns : List ℕ) (used k t u : ℕ) → AllSmall xs → items_verdict s checked xs ns used k t ≡ Ok u
      → AllBytes (items_bytes s xs ns t)
  unfolding items_bytes
  items_bytes_lem bytes [] ns used k t u none h = none
  items_bytes_lem bytes (x ∷ xs) ns used k t u (one z zs) h =
      let f = items_fine s checked x xs ns used k t u h in
      let n : ℕ = (entries_of x.content).count in
      let rest = items_bytes_lem bytes xs (drop n ns) (used + n) (k + 1) (sum_of t (row_lengths x ns)) u zs f.2 in
      each_append (item_bytes_lem s bytes x ns t z f.1) rest

items_length : (s : List ℕ) (xs : List LogItem) (ns : List ℕ) (p t : ℕ) → length (items_at s xs ns p t) ≡ length xs
unfolding items_at
items_length s [] ns p t = refl
items_length s (x ∷ xs) ns p t = ap suc (items_length s xs (drop (entries_of x.content).count ns) _ _)

-- ---- the footer

module _ (bs : List ℕ) (bytes : Bytes bs) (a : ℕ) (small : a < 2 ^ 32) where
  -- The footer's four bytes are the checksum XOR the signature.
  pub footer_back : little_endian (little_endian_bytes 4 (bit_xor (crc_of bs) a)) ≡ bit_xor (crc_of bs) a
  footer_back = little_endian_back 4 (bit_xor (crc_of bs) a) (xor_lt 32 (crc_of bs) a (crc_lt bs bytes) small)

  -- Bytes with a footer for one signature have a wrong one for another.
  pub footer_wrong : (b : ℕ) → 0 < length bs → (a ≡ b → ⊥) → seal_check (footed a bs) b ≡ Err ChecksumWrong
  unfolding seal_check footed
  footer_wrong b some other =
      let last : List ℕ = little_endian_bytes 4 (bit_xor (crc_of bs) a) in
      let four : length last ≡ 4 = length_little 4 (bit_xor (crc_of bs) a) in
      let long : 4 < length (bs ++ last) = omega (arith, length-append bs last) in
      let wrong : bit_xor (crc_of bs) a ≡ bit_xor (crc_of bs) b → ⊥ = λ e. other (xor_cancel_l (crc_of bs) a b e) in
      rw (lt-ltb _ _ long, part_of bs last four, footer_of_lem bs last four, footer_back, ne_eqb _ _ wrong)

-- ---- a list that is not refused

clash : {xs : List LogItem} {rows : List EntryIndex} {u q i : ℕ} {r : Reason} → accepted xs rows u q ≡ rejected r i → ⊥
clash e = cc

module _ (s : List ℕ) (checked : Bool) (xs : List LogItem) (ns : List ℕ) (total : ℕ) (z : AllSmall xs) (h : list_verdict s checked xs ns ≡ Ok total) where
  told : (length xs ≤ 256) × (items_verdict s checked xs ns 0 0 0 ≡ Ok total)
  told = list_fine s checked xs ns h

  -- What is written is spelled, with shortest numbers, by the list with its places worked out, and that list is within the limits.
  pub written_spelled : Spells (NumberIn Plain) (body_items s xs ns) (body_rows xs ns) total (list_bytes s xs ns) × Within (body_items s xs ns) (body_rows xs ns)
  unfolding list_bytes
  written_spelled =
      let few = told.0 in
      let i = items_written s checked xs ns 0 0 0 total (length (shortest (length xs))) z (omega arith) told.1 in
      let same : length (body_items s xs ns) ≡ length xs = items_length s xs ns _ 0 in
      let small : length xs < 2 ^ 64 = omega arith in
      let count : NumberIn Plain (length (body_items s xs ns)) (shortest (length xs)) = rw same (small, refl) in
      (list count i.0, record { items = omega arith; entries = omega (arith, i.2); each = i.1 })

  -- It is bytes where the store is.
  pub written_bytes : Bytes s → Bytes (list_bytes s xs ns)
  unfolding list_bytes
  written_bytes bytes =
      let few = told.0 in
      bytes_all (each_append (shortest_bytes (length xs) (omega arith)) (items_bytes_lem s checked bytes xs ns 0 0 0 total z told.1))

  -- The key and content bytes of each item in the body are those in the store.
  pub written_kept : (signature : ℕ) → keys_and_contents (body_bytes s xs ns signature) (body_items s xs ns) ≡ keys_and_contents s xs
  unfolding footed list_bytes
  written_kept signature =
      let whole = at_front (list_bytes s xs ns) (little_endian_bytes 4 (bit_xor (crc_of (list_bytes s xs ns)) signature)) in
      let c = rw zero-add at (cut (shortest (length xs)) whole).1 in
      items_kept s checked xs ns 0 0 0 total z (omega arith) told.1 c

  module _ (bytes : Bytes s) where
    -- Reading a written body under its signature gives the list with its places worked out, its rows, the entry total and the place after the list.
    pub read_back : (signature : ℕ) → signature < 2 ^ 32
        → read_body (body_bytes s xs ns signature) signature ≡ accepted (body_items s xs ns) (body_rows xs ns) total (length (list_bytes s xs ns))
    unfolding footed
    read_back signature small =
        let word : ℕ = bit_xor (crc_of (list_bytes s xs ns)) signature in
        complete_body (body_bytes s xs ns signature) signature
        (record {
          rest = list_bytes s xs ns;
          last = little_endian_bytes 4 word;
          split = refl;
          four = length_little 4 word;
          checks = footer_back (list_bytes s xs ns) (written_bytes bytes) signature small;
          begins = record {
            ignored = [];
            split = sym (append-nil (list_bytes s xs ns));
            spells = spells_as (NumberIn Plain) (NumberIn Any) (in_any Plain) written_spelled.0;
            within = written_spelled.1;
          };
        })

    -- A written body, read under a second signature, is refused with 6 exactly when the two signatures differ.
    pub other_signature : (a b : ℕ) → a < 2 ^ 32 → (read_body (body_bytes s xs ns a) b ≡ rejected ChecksumWrong 0) ↔ (a ≡ b → ⊥)
    other_signature a b small =
        let some = spells_some Plain written_spelled.0 in (
          λ e same. clash (sym (read_back a small) ∙ ap (read_body (body_bytes s xs ns a)) same ∙ e),
          λ other. body_refused (body_bytes s xs ns a) b (footer_wrong (list_bytes s xs ns) (written_bytes bytes) a small b some other),
        )

-- ---- a table

-- The items of a table have numbers of 64 bits where its rows have.
pub table_small : (t : LogItemBatch) → AllSmall t.items → AllSmall (listed t)
unfolding items_of numbers_of
table_small t z = go t.item_count t.items z
  where
    blank : Small (blank_item.raft_group_id ∷ numbers_of blank_item.content)
    blank = one (lit< tt) (one (lit< tt) (one (lit< tt) none))

    go : (n : ℕ) (xs : List LogItem) → AllSmall xs → AllSmall (items_of xs n)
    go zero xs f = none
    go (suc n) [] f = one blank (go n [] f)
    go (suc n) (x ∷ xs) (one h f) = one h (go n xs f)

module _ (checked : Bool) (t : LogItemBatch) (s : List ℕ) (signature : ℕ) (out : List ℕ) {n : ℕ} {later : List ℕ} where
  -- What a writing that is not refused left in the buffer is a written body.
  pub buffer_written : BodyWritten checked t s signature out (Ok n) later
      → (total : ℕ) × (take n later ≡ body_bytes s (listed t) (table.table_lengths t) signature)
      × (list_verdict s checked (listed t) (table.table_lengths t) ≡ Ok total)
  buffer_written w = go (encodes s checked (listed t) (table.table_lengths t) signature out 0 w)
    where
      go : Encodes s checked (listed t) (table.table_lengths t) signature out 0 (Ok n) later
          → (total : ℕ) × (take n later ≡ body_bytes s (listed t) (table.table_lengths t) signature)
          × (list_verdict s checked (listed t) (table.table_lengths t) ≡ Ok total)
      go (writes {total = total} a v e) =
          let long : n ≡ length (body_bytes s (listed t) (table.table_lengths t) signature) = cc in
          (total, ap (take n) e ∙ take_at (body_bytes s (listed t) (table.table_lengths t) signature) _ n (sym long), v)
      go (leaves a e) = cc

  -- So it is read back: the table's list with its places worked out, its rows and a total; and each key and content has the bytes that it had.
  pub buffer_read_back : AllSmall t.items → Bytes s → signature < 2 ^ 32 → BodyWritten checked t s signature out (Ok n) later
      → (total : ℕ)
      × (read_body (take n later) signature
      ≡ accepted (body_items s (listed t) (table.table_lengths t)) (body_rows (listed t) (table.table_lengths t)) total (length (list_bytes s (listed t) (table.table_lengths t))))
      × (keys_and_contents (take n later) (body_items s (listed t) (table.table_lengths t)) ≡ keys_and_contents s (listed t))
  buffer_read_back z bytes small w =
      let b = buffer_written w in
      let read = read_back s checked (listed t) (table.table_lengths t) b.0 (table_small t z) b.2 bytes signature small in
      let kept = written_kept s checked (listed t) (table.table_lengths t) b.0 (table_small t z) b.2 signature in
      (b.0, rw b.1 read, rw b.1 kept)
