-- What document 01 says of bodies, read and written, and of whole batches written, proved of the definitions that the contracts cite; and its
-- worked examples. What it says of whole batches read stands in Whole.antt, of numbers and words in the Theorems.antt of numbers and of words, of
-- one item in log_item's Agree.antt.
-- Assumes nothing.
use Rattle.std.proofs.Common.{◌≡◌, ℕ, suc, ◌+◌, ◌-◌, ◌^◌, ◌<◌, ◌≤◌, Bool, true, false, ◌⊎◌, ◌↔◌, List, [], ◌∷◌, ◌++◌, length, take, drop, is_some, Some, None, Result, Ok, Err, sym, refl, ap, ◌∙◌, inl, inr, append_assoc, arith, take_at, eq-eqb, ne_eqb, le-leb}
use lib.Bits.{bit_xor}
use Rattle.codec.specs.Number.{read_from, read_number}
use Rattle.codec.specs.Shortest.{spell, shortest}
use Rattle.words.specs.Word.{little_endian, little_endian_bytes}
use Rattle.words.specs.Byte.{Bytes}
use Rattle.words.proofs.Words.{length_little}
use Rattle.crc.specs.Crc.{crc_of}
use Rattle.log_batch.specs.Seal.{sealed_part, sealed_length}
use Rattle.log_item.specs.Pieces.{byte, number, span}
use Rattle.log_item.specs.Reading.{command, put_at, key_value_of, first_index_of, entry_count_of, entry_indexes, content, head, tail, tails, one_item}
use Rattle.log_item.specs.declared.Span.{Span}
use Rattle.log_item.specs.declared.LogItem.{LogItem}
use Rattle.log_item.specs.declared.EntryIndex.{EntryIndex}
use Rattle.log_item.specs.declared.Form.{Form}
use Rattle.log_item.specs.declared.Form.TheVariants.{Any, Plain}
use Rattle.list_writer.specs.Bytes.{items_bytes, list_bytes, items_of, body_bytes, footed}
use Rattle.list_writer.specs.Refusing.{refused, items_verdict, list_verdict}
use Rattle.list_writer.specs.Answers.{measured_of, measure_of, measured, laid, encoded_of, MeasuredWritten}
use Rattle.log_batch.specs.Reading.{accepted, rejected, Answer, read_items}
use Rattle.log_batch.specs.Body.{read_body}
use Rattle.log_batch.specs.Total.{agreeing}
use Rattle.log_batch.specs.Answers.{check_of, plain_of, plain_body}
use Rattle.log_batch.specs.declared.LogItemBatch.{LogItemBatch}
use Rattle.log_batch.specs.Table.{table_of, empty_table}
use Rattle.log_batch.proofs.Tables.{in_table}
use Rattle.log_batch.specs.Writing.{listed, table_lengths, BodyWritten, body_items, body_rows, keys_and_contents, AllSmall}
use Rattle.log_item.specs.Spelling.{NumberIn}
use Rattle.log_batch.specs.Spelling.{Spells, list}
use Rattle.log_batch.specs.Acceptable.{Acceptable, Begins}
use Rattle.log_batch.specs.Plain.{InPlainForm}
use Rattle.log_batch.specs.Rows.{Joined, Indexed}
use Rattle.log_item.specs.ItemSpelled.{Asks}
use Rattle.log_batch.proofs.Accepts.{of_accepted}
use Rattle.log_batch.proofs.Listing.{complete, sound, items_joined, items_indexed}
use Rattle.log_batch.proofs.One.{one_spelled}
use Rattle.log_batch.proofs.Bodies.{sound_body, complete_body, sound_plain, complete_plain}
use Rattle.log_batch.proofs.Spelled.{written_spelled, written_kept, read_back, other_signature, table_small, buffer_written, buffer_read_back}
use Rattle.log_batch.specs.Front.{block_bytes, body_offset, batch_encoded, written_length}
use Rattle.log_batch.proofs.Planning.{planned}
use Rattle.log_batch.specs.Batch.{block_of, body_of, read_batch}
use Rattle.log_batch.specs.Examples.{AllRight, table}
use Rattle.log_batch.specs.Written.{framed, frame_of, BatchWritten, TableWritten}
use Rattle.list_writer.specs.declared.Measured.{Measured}
use Rattle.log_batch.proofs.Written.{list_sized, own_sized, verdict_of, nothing_laid, whole, body_stands}
use Rattle.log_batch.proofs.Again.{content_size, block_again, body_again, content_again, front_again}
use Rattle.log_batch.proofs.Whole.{body_read}
use Rattle.refusal.specs.declared.Reason.{Reason}
use Rattle.refusal.specs.declared.Reason.TheVariants.{BlockDiffers, ChecksumWrong}
use Rattle.refusal.specs.declared.Refusal.{Refusal}
use Rattle.refusal.specs.Number.{refusal_of}

-- ---- bodies read

module _ (form : Form) (s : List ℕ) (asks : Asks form s) where
  -- A list is read exactly when it is within the limits and spells a beginning of the bytes; the place after it is where that beginning ends.
  pub read_iff_begins : (xs : List LogItem) (rows : List EntryIndex) (u q : ℕ)
      → (read_items form s ≡ accepted xs rows u q) ↔ ((bytes : List ℕ) × Begins form s xs rows u bytes × (q ≡ length bytes))
  read_iff_begins xs rows u q = (λ e. of_accepted (sound form s asks) e, λ h. rw h.2 (complete form h.1))

  -- Bytes after the last item are ignored: others in their place change nothing.
  pub tail_ignored : {xs : List LogItem} {rows : List EntryIndex} {u q : ℕ} → read_items form s ≡ accepted xs rows u q → (t : List ℕ)
      → read_items form (take q s ++ t) ≡ accepted xs rows u q
  tail_ignored {xs} {rows} {u} {q} e t =
      let h = of_accepted (sound form s asks) e in
      let b = h.1 in
      let front : take q s ≡ h.0 = ap (take q) b.split ∙ take_at h.0 b.ignored q (sym h.2) in
      let other : Begins form (h.0 ++ t) xs rows u h.0 = record { ignored = t; split = refl; spells = b.spells; within = b.within } in
      let read = complete form other in
      cc

-- A body is accepted exactly when its last four bytes are the checksum of the rest XORed with the signature and the rest begins with bytes that
-- some item list within the limits spells. That list is returned, with the place where those bytes end.
pub accepted_exactly : (body : List ℕ) (signature : ℕ) (xs : List LogItem) (rows : List EntryIndex) (u q : ℕ)
    → (read_body body signature ≡ accepted xs rows u q) ↔ ((bytes : List ℕ) × Acceptable body signature xs rows u bytes × (q ≡ length bytes))
accepted_exactly body signature xs rows u q = (λ e. sound_body body signature e, λ h. rw h.2 (complete_body body signature h.1))

-- So a body is accepted at all exactly when it is acceptable for some list.
pub accepted_when : (body : List ℕ) (signature : ℕ)
    → ((xs : List LogItem) × (rows : List EntryIndex) × (u : ℕ) × (q : ℕ) × (read_body body signature ≡ accepted xs rows u q))
    ↔ ((xs : List LogItem) × (rows : List EntryIndex) × (u : ℕ) × (bytes : List ℕ) × Acceptable body signature xs rows u bytes)
accepted_when body signature =
    (λ h. let b = sound_body body signature h.4 in (h.0, h.1, h.2, b.0, b.1), λ h. (h.0, h.1, h.2, length h.3, complete_body body signature h.4))

-- In a body other bytes between the last item and the footer change nothing either, where the footer is right for them.
pub body_tail_ignored : (body : List ℕ) (signature : ℕ) {xs : List LogItem} {rows : List EntryIndex} {u q : ℕ} → read_body body signature ≡ accepted xs rows u q
    → (t last : List ℕ) → length last ≡ 4 → little_endian last ≡ bit_xor (crc_of (take q body ++ t)) signature
    → read_body ((take q body ++ t) ++ last) signature ≡ accepted xs rows u q
body_tail_ignored body signature {xs} {rows} {u} {q} e t last four checks =
    let h = sound_body body signature e in
    let a = h.1 in
    let whole : body ≡ h.0 ++ (a.begins.ignored ++ a.last) = cc (append_assoc h.0 a.begins.ignored a.last) in
    let front : take q body ≡ h.0 = ap (take q) whole ∙ take_at h.0 (a.begins.ignored ++ a.last) q (sym h.2) in
    let other : Acceptable ((take q body ++ t) ++ last) signature xs rows u h.0 =
    record {
      rest = take q body ++ t;
      last = last;
      split = refl;
      four = four;
      checks = checks;
      begins = record { ignored = t; split = ap (λ l. l ++ t) front; spells = a.begins.spells; within = a.begins.within };
    } in
    let read = complete_body _ signature other in
    cc

-- At most one list spells a beginning of given bytes, within the limits or not, and the two beginnings are the same bytes.
pub one_list : {s : List ℕ} {xs ys : List LogItem} {rows more : List EntryIndex} {u v : ℕ} {bytes other : List ℕ} (r t : List ℕ)
    → Spells (NumberIn Any) xs rows u bytes → s ≡ bytes ++ r → Spells (NumberIn Any) ys more v other → s ≡ other ++ t
    → (xs ≡ ys) × (rows ≡ more) × (u ≡ v) × (bytes ≡ other)
one_list r t h d g e = one_spelled r t h g (sym d ∙ e)

module _ {N : ℕ → List ℕ → Type 0} where
  -- The entry spans of a list start at 0, each where the one before ended, and the last ends at the entry total.
  pub spans_joined : {xs : List LogItem} {rows : List EntryIndex} {u : ℕ} {bytes : List ℕ} → Spells N xs rows u bytes → Joined 0 u rows
  spans_joined (list num g) = items_joined g

  -- Each item has as many rows as it states entries, and their indexes are consecutive from its first index on.
  pub rows_indexed : {xs : List LogItem} {rows : List EntryIndex} {u : ℕ} {bytes : List ℕ} → Spells N xs rows u bytes → Indexed xs rows
  rows_indexed (list num g) = items_indexed g

module _ (body : List ℕ) (signature : ℕ) where
  -- Plain form: yes exactly when each of the body's numbers has the shortest spelling.
  pub plain_exactly : Bytes body → (plain_body body signature ≡ Ok true) ↔ InPlainForm body signature
  plain_exactly bytes = (λ e. sound_plain body signature bytes e, λ f. complete_plain body signature f)

  -- A yes or no for an accepted body.
  pub yes_or_no : {xs : List LogItem} {rows : List EntryIndex} {u q : ℕ} → read_body body signature ≡ accepted xs rows u q
      → (plain_body body signature ≡ Ok true) ⊎ (plain_body body signature ≡ Ok false)
  unfolding plain_body
  yes_or_no {xs} {rows} {u} {q} e = rw e (either (read_items Plain (sealed_part body)))
    where
      either : (a : Answer) → (plain_of (accepted xs rows u q) a ≡ Ok true) ⊎ (plain_of (accepted xs rows u q) a ≡ Ok false)
      either (accepted ys more v p) = inl refl
      either (rejected r i) = inr refl

  -- A refused body gets its refusal.
  pub plain_refused : {r : Reason} {i : ℕ} → read_body body signature ≡ rejected r i → plain_body body signature ≡ Err (refusal_of r i)
  unfolding plain_body
  plain_refused e = rw e

-- The check without a table agrees with the table reading: it tells the counts, the entry total and the place after the last item that the table
-- of the same answer holds, or its refusal.
module _ (body block : Span) where
  pub check_accepted : (xs : List LogItem) (rows : List EntryIndex) (u q : ℕ) → let t = table_of body block (accepted xs rows u q) in
      check_of (accepted xs rows u q) ≡ Ok (record { items = t.item_count; entries = t.entry_count; total = t.total; next = t.next })
  unfolding table_of
  check_accepted xs rows u q = refl

  pub check_refused : (r : Reason) (i : ℕ)
      → (x : Refusal) × (check_of (rejected r i) ≡ Err x) × ((table_of body block (rejected r i)).refusal ≡ Some x)
  unfolding table_of
  check_refused r i = (refusal_of r i, refl, refl)

-- ---- the worked examples, and tables

-- Document 01's worked examples hold of the definitions, by computation.
pub table_right : AllRight table
unfolding read_from read_number spell shortest byte number span command put_at key_value_of first_index_of entry_count_of entry_indexes content head tail tails one_item
table_right = (
  (refl, refl),
  (
    (refl, refl),
    (
      (refl, refl),
      (
        (refl, refl),
        (
          refl,
          (
            refl,
            (
              refl,
              (
                refl,
                (
                  refl,
                  (
                    refl,
                    (
                      refl,
                      (
                        refl,
                        (
                          refl,
                          (
                            refl,
                            tt,
                          ),
                        ),
                      ),
                    ),
                  ),
                ),
              ),
            ),
          ),
        ),
      ),
    ),
  ),
)

-- The list of an accepted answer is returned: the table has as many rows as it states, and they are the list's.
pub list_returned : (body block : Span) (xs : List LogItem) (rows : List EntryIndex) (u q : ℕ) → let t = table_of body block (accepted xs rows u q) in
    (take t.item_count t.items ≡ xs) × (take t.entry_count t.entries ≡ rows) × (t.total ≡ u) × (t.next ≡ q) × (t.refusal ≡ None)
unfolding table_of
list_returned body block xs rows u q = let t = in_table body block xs rows u q in (t.0, t.1, refl, refl, refl)

-- A refused reading hands back an empty table.
pub refused_empty : (body block : Span) (r : Reason) (i : ℕ) → table_of body block (rejected r i) ≡ empty_table (Some (refusal_of r i))
unfolding table_of
refused_empty body block r i = refl

-- ---- bodies written

-- What is written of a table is spelled, with shortest numbers, by its list with its places worked out.
module _ (checked : Bool) (t : LogItemBatch) (s : List ℕ) (signature : ℕ) (out : List ℕ) {n : ℕ} {later : List ℕ} (small : AllSmall t.items)
    (w : BodyWritten checked t s signature out (Ok n) later) where
  pub body_spelled : (total : ℕ) × (take n later ≡ body_bytes s (listed t) (table_lengths t) signature)
      × Spells (NumberIn Plain) (body_items s (listed t) (table_lengths t)) (body_rows (listed t) (table_lengths t)) total (list_bytes s (listed t) (table_lengths t))
  body_spelled =
      let b = buffer_written checked t s signature out w in
      (b.0, b.1, (written_spelled s checked (listed t) (table_lengths t) b.0 (table_small t small) b.2).0)

  module _ (bytes : Bytes s) (key : signature < 2 ^ 32) where
    -- Reading a written body under the same signature gives that list and the same key and content bytes.
    pub body_read_back : (total : ℕ)
        × (read_body (take n later) signature
        ≡ accepted (body_items s (listed t) (table_lengths t)) (body_rows (listed t) (table_lengths t)) total (length (list_bytes s (listed t) (table_lengths t))))
        × (keys_and_contents (take n later) (body_items s (listed t) (table_lengths t)) ≡ keys_and_contents s (listed t))
    body_read_back = buffer_read_back checked t s signature out small bytes key w

    -- A written body, read under a second signature, is refused with 6 exactly when the two signatures, none being 0, differ.
    pub second_signature : (b : ℕ) → (read_body (take n later) b ≡ rejected ChecksumWrong 0) ↔ (signature ≡ b → ⊥)
    second_signature b =
        let k = buffer_written checked t s signature out w in
        rw k.1 (other_signature s checked (listed t) (table_lengths t) k.0 (table_small t small) k.2 bytes signature b key)

-- ---- whole batches written

-- Where the whole-batch writer answers some bytes, the batch stands at the start of the buffer, and behind it what stood there before. Its content
-- stands after the header. Where the content is bytes, all below 256, the batch reads under any signature as its body does by itself,
-- with the entry total held to the content.
module _ (checked : Bool) (xs : List LogItem) (ns s : List ℕ) (signature : ℕ) {items : ℕ} {content out : List ℕ} {n : ℕ} {later : List ℕ}
    (w : BatchWritten (measure_of s checked xs ns) items content (body_bytes s xs ns signature) out (Ok n) later) (h : n ≡ 0 → ⊥) where
  abbrev body : List ℕ
  body = body_bytes s xs ns signature

  pub batch_stands : later ≡ framed content (body_bytes s xs ns signature) ++ drop n out
  batch_stands = (whole (list_sized s checked xs ns signature) w h).bytes

  pub content_stands : take (length content) (drop 16 later) ≡ content
  content_stands = rw batch_stands (content_again content body (drop n out))

  pub written_read : Bytes content → (b : ℕ)
      → read_batch later b
      ≡ table_of (record { at = body_offset content; len = length (body_bytes s xs ns signature) })
      (record { at = 16; len = length (block_bytes content) })
      (agreeing (Some (length content)) (read_body (body_bytes s xs ns signature) b))
  written_read bytes b =
      let t : List ℕ = drop n out in
      let k = whole (list_sized s checked xs ns signature) w h in
      let long : body_offset content + length body - body_offset content ≡ length body = omega arith in
      let block : body_offset content - 16 ≡ length (block_bytes content) = omega arith in
      let size : sealed_length (block_of (frame_of content body) (framed content body ++ t)) ≡ length content =
      ap sealed_length (block_again content body t) ∙ content_size content in
      let front = front_again content body t (rw k.size at k.few) bytes in
      ap (λ (l : List ℕ). read_batch l b) batch_stands ∙ body_read (framed content body ++ t) b front
      ∙ (rw (size, body_again content body t, long, block))

  -- Reading a written batch gives the list with its places worked out, its rows, and the content's length as the entry total. The numbers of
  -- the items are those of their types, below 2^64, and store and content are bytes.
  module _ (small : AllSmall xs) where
    fine_total : list_verdict s checked xs ns ≡ Ok (length content)
    fine_total =
        let k = planned items content (length out) (measure_of s checked xs ns) (sym w.answer) h in
        verdict_of s checked xs ns k.1 ∙ ap Ok k.2.total

    pub batch_read_back : Bytes s → Bytes content → signature < 2 ^ 32
        → read_batch later signature
        ≡ table_of (record { at = body_offset content; len = length (body_bytes s xs ns signature) })
        (record { at = 16; len = length (block_bytes content) })
        (accepted (body_items s xs ns) (body_rows xs ns) (length content) (length (list_bytes s xs ns)))
    batch_read_back store bytes key =
        let read = read_back s checked xs ns (length content) small fine_total store signature key in
        written_read bytes signature ∙ (rw (read, eq-eqb (length content) (length content) refl))

    -- Each key and content has, in the body of the written batch, the bytes that it had.
    pub batch_kept : keys_and_contents (body_of (frame_of content body) later) (body_items s xs ns) ≡ keys_and_contents s xs
    batch_kept =
        let t : List ℕ = drop n out in
        ap (λ (l : List ℕ). keys_and_contents (body_of (frame_of content body) l) (body_items s xs ns)) batch_stands
        ∙ ap (λ (l : List ℕ). keys_and_contents l (body_items s xs ns)) (body_again content body t)
        ∙ written_kept s checked xs ns (length content) small fine_total signature

-- ---- a second signature

-- What any writer writes of a list, where its measure is the list's own unless it is refused: read under a second signature, it is refused
-- with 6 exactly when the two signatures, none being 0, differ. The numbers of the items are below 2^64, store and content are bytes.
module _ (s : List ℕ) (checked : Bool) (xs : List LogItem) (ns : List ℕ) (small : AllSmall xs) (store : Bytes s) (signature b : ℕ) (key : signature < 2 ^ 32)
    {m : Result Measured Refusal} (own : (k : Measured) → m ≡ Ok k → measure_of s checked xs ns ≡ Ok k) {out : List ℕ} {n : ℕ} {later : List ℕ} where
  -- A body, at the place where it was written.
  pub body_under_another : (at : ℕ) → MeasuredWritten m (body_bytes s xs ns signature) out at (Ok n) later
      → (read_body (take n (drop at later)) b ≡ rejected ChecksumWrong 0) ↔ (signature ≡ b → ⊥)
  body_under_another at w =
      let k = body_stands (own_sized s checked xs ns signature own) w in
      let fine_list = verdict_of s checked xs ns (own _ k.1) in
      rw k.2 (other_signature s checked xs ns _ small fine_list store signature b key)

  -- A whole batch, at the start of the buffer.
  pub batch_under_another : {items : ℕ} {content : List ℕ} → (n ≡ 0 → ⊥) → Bytes content → BatchWritten m items content (body_bytes s xs ns signature) out (Ok n) later
      → (read_batch later b ≡ empty_table (Some (refusal_of ChecksumWrong 0))) ↔ (signature ≡ b → ⊥)
  unfolding table_of
  batch_under_another {items} {content} h bytes v =
      let k = planned items content (length out) m (sym v.answer) h in
      let same : m ≡ measure_of s checked xs ns = k.1 ∙ sym (own _ k.1) in
      let w = rw same at v in
      let total = fine_total checked xs ns s signature w h small in
      let other = other_signature s checked xs ns (length content) small total store signature b key in
      let read = written_read checked xs ns s signature w h bytes b in
      let back = batch_read_back checked xs ns s signature w h small store bytes key in (
        λ e same. let z = ap (λ (t : LogItemBatch). is_some t.refusal) (sym back ∙ ap (read_batch later) same ∙ e) in cc,
        λ differ. read ∙ (rw (other.1 differ)),
      )

-- So of what LogBatch::encode and its unchecked form write of a table.
pub batch_second_signature : (checked : Bool) (t : LogItemBatch) (s content : List ℕ) (signature : ℕ) (out : List ℕ) {n : ℕ} {later : List ℕ} → AllSmall t.items
    → TableWritten checked t s content signature out (Ok n) later → (n ≡ 0 → ⊥) → Bytes s → Bytes content → signature < 2 ^ 32
    → (b : ℕ) → (read_batch later b ≡ empty_table (Some (refusal_of ChecksumWrong 0))) ↔ (signature ≡ b → ⊥)
batch_second_signature checked t s content signature out small w h store bytes key b =
    batch_under_another s checked (listed t) (table_lengths t) (table_small t small) store signature b key (λ k e. e) h bytes w

-- ---- refused, and nothing to write

-- A refused write of a body changes no lent byte.
pub refused_body_kept : (checked : Bool) (t : LogItemBatch) (s : List ℕ) (signature : ℕ) {out : List ℕ} {x : Refusal} {later : List ℕ}
    → BodyWritten checked t s signature out (Err x) later → later ≡ out
unfolding laid
refused_body_kept checked t s signature w = w.written

-- Where the answer is no bytes, the buffer is as it was.
pub batch_absent : {m : Result Measured Refusal} {items : ℕ} {content body out : List ℕ} {r : Result ℕ Refusal} {later : List ℕ} → BatchWritten m items content body out r later
    → written_length r ≡ 0 → later ≡ out
batch_absent {out = out} {r = r} w h = w.written ∙ nothing_laid r h out _ 0

-- So a refused write of a whole batch changes no lent byte either.
pub refused_batch_kept : {m : Result Measured Refusal} {items : ℕ} {content body out : List ℕ} {x : Refusal} {later : List ℕ}
    → BatchWritten m items content body out (Err x) later → later ≡ out
refused_batch_kept w = batch_absent w refl

-- The body writer given no items writes count 0 and the footer: these five bytes,
module _ (s ns : List ℕ) where
  pub none_bytes : (signature : ℕ) → body_bytes s [] ns signature ≡ 0 ∷ little_endian_bytes 4 (bit_xor (crc_of (0 ∷ [])) signature)
  unfolding footed list_bytes items_bytes shortest spell
  none_bytes signature = refl

  pub none_length : (signature : ℕ) → length (body_bytes s [] ns signature) ≡ 5
  none_length signature = ap length (none_bytes signature) ∙ ap suc (length_little 4 (bit_xor (crc_of (0 ∷ [])) signature))

  pub none_measured : (checked : Bool) → measure_of s checked [] ns ≡ Ok (measured 5 0)
  unfolding measure_of measured_of list_verdict items_verdict list_bytes items_bytes shortest spell
  none_measured checked = refl

-- and the buffer keeps all else.
pub no_items : (checked : Bool) (t : LogItemBatch) (s : List ℕ) (signature : ℕ) {out : List ℕ} {r : Result ℕ Refusal} {later : List ℕ}
    → BodyWritten checked t s signature out r later → t.item_count ≡ 0 → 5 ≤ length out
    → (r ≡ Ok 5) × (later ≡ 0 ∷ little_endian_bytes 4 (bit_xor (crc_of (0 ∷ [])) signature) ++ drop 5 out)
unfolding items_of encoded_of laid
no_items checked t s signature {out} {r} w z room =
    let none : listed t ≡ [] = ap (items_of t.items) z in
    let answer : r ≡ Ok 5 = w.answer ∙ (rw (none, none_measured s (table_lengths t) checked, le-leb 5 (length out) room)) in
    (answer, w.written ∙ (rw (answer, none, none_bytes s (table_lengths t) signature, length_little, le-leb 5 (length out) room)))

-- The whole-batch writer given no items and no content writes nothing and answers 0. No items with content is 20.
module _ (s ns : List ℕ) (checked : Bool) (room : ℕ) where
  pub none_written : batch_encoded (measure_of s checked [] ns) 0 [] room ≡ Ok 0
  unfolding batch_encoded
  none_written = refl

  pub content_alone : (b : ℕ) (bs : List ℕ) → batch_encoded (measure_of s checked [] ns) 0 (b ∷ bs) room ≡ refused BlockDiffers 0
  unfolding batch_encoded measure_of measured_of list_verdict items_verdict list_bytes items_bytes shortest spell
  content_alone b bs =
      let some : length (b ∷ bs) ≡ 0 → ⊥ = λ z. omega arith in
      let more : 0 ≡ length (b ∷ bs) → ⊥ = λ z. omega arith in
      rw (ne_eqb (length (b ∷ bs)) 0 some, ne_eqb 0 (length (b ∷ bs)) more)
