-- What is written of an item is spelled, in shortest numbers, and so it is read back.
-- Assumes nothing.
use Prim.Native.Nat.{ℕ, zero, suc, ◌+◌, ◌-◌, ◌≤◌, ◌<◌, ◌^◌}
use mathlib.Core.Path.{◌≡◌, refl, ap, ◌∙◌}
use mathlib.Core.Bool.{true, false, not, and-eq-true_iff}
use mathlib.Core.List.{List, [], ◌∷◌, ◌++◌, map, append_assoc}
use native.Mathlib.Omega.{arith}
use lib.ListN.{length, drop, length-take}
use lib.Seq.{take_at}
use lib.Dec.{ltb, leb, lit<}
use borrow.Author.Tests.{not-true, ltb-false, leb-true}
use Rattle.std.specs.Prelude.{Ok, Err}
use Rattle.codec.specs.Shortest.{shortest}
use Rattle.words.specs.Write.{placed}
use Rattle.log_item.specs.Got.{got}
use Rattle.log_item.specs.Entries.{entries_of, type_of}
use Rattle.log_item.specs.Each.{Each, none, one}
use Rattle.log_item.specs.Limits.{RowFits}
use Rattle.log_item.specs.Spelling.{NumberIn, Spanned, spanned, Contents, no_entries, entries, clean, compact, put, delete, Tails, no_more, next, OneItem, item}
use Rattle.words.specs.Place.{At}
use Rattle.log_item.specs.Private.{Room}
use Rattle.log_item.specs.Prefix.{bytes_of, inside}
use Rattle.log_item.specs.Reading.{one_item}
use Rattle.log_item.specs.declared.Form.{Form}
use Rattle.log_item.specs.declared.Form.TheVariants.{Plain}
use Rattle.log_item.specs.declared.Span.{Span}
use Rattle.log_item.specs.declared.Command.TheVariants.{Clean, Compact}
use Rattle.log_item.specs.declared.Op.{Op}
use Rattle.log_item.specs.declared.Op.TheVariants.{Put, Del}
use Rattle.log_item.specs.declared.LogItemContent.{LogItemContent}
use Rattle.log_item.specs.declared.LogItemContent.TheVariants as contents
use Rattle.log_item.specs.declared.LogItem.{LogItem}
use Rattle.log_item.specs.declared.EntryIndex.{EntryIndex}
use Rattle.words.proofs.Place.{cut}
use Rattle.log_item.proofs.Forms.{in_form}
use Rattle.log_item.proofs.Complete.{complete_item}
use Rattle.log_item.specs.Bytes.{span_bytes, command_bytes, op_bytes, entries_bytes, content_bytes, head_bytes, tails_bytes}
use Rattle.log_item.specs.Refusing.{op_inside, content_inside, content_refusal}
use Rattle.refusal.specs.First.{Checked, fine, ◌>>=◌}
use Rattle.refusal.specs.declared.Reason.{Reason}
use Rattle.log_item.specs.Written.{sum_of, row_lengths, item_bytes, tail_refusal, item_refusal}
use Rattle.log_item.specs.Relocated.{span_at, key_at, stated, content_at, item_at, rows_from, item_rows_of, spans_of, numbers_of, Small}
use Rattle.log_item.proofs.Lengths.{part_length, span_length_lem}
use Rattle.log_item.proofs.Refusals.{passed, content_inside_lem, content_allowed}
use Rattle.log_item.proofs.Stores.{stored_placed, stored_stands}
use Rattle.log_item.proofs.Tails.{sum_rises}

-- ---- pieces

span_written : (s : List ℕ) (p : ℕ) (k : Span) → inside s k ≡ true → k.len < 2 ^ 64 → Spanned (NumberIn Plain) (span_at p k) p (span_bytes s k)
unfolding span_bytes
span_written s p k h small =
    let e = part_length s k h in
    let n : NumberIn Plain (length (bytes_of s k)) (shortest k.len) = rw e (small, refl) in
    let g : Spanned (NumberIn Plain) (record { at = p + length (shortest k.len); len = length (bytes_of s k) }) p (shortest k.len ++ bytes_of s k) = spanned (bytes_of s k) n in
    rw e at g

content_written : (s : List ℕ) (p : ℕ) (k : LogItemContent) → content_inside s k ≡ true → Small (numbers_of k) → Contents (NumberIn Plain) (content_at p k) p (content_bytes s k)
unfolding content_at content_bytes numbers_of command_bytes stated entries_bytes key_at op_bytes
content_written s p (contents.EntryIndexes e) h (one n (one i z)) = go e.count n
  where
    go : (m : ℕ) → m < 2 ^ 64 → Contents (NumberIn Plain) (contents.EntryIndexes (stated m e.first_index)) p (entries_bytes m e.first_index)
    go zero b = no_entries (b, refl)
    go (suc m) b = entries (b, refl) (i, refl)
content_written s p (contents.Command Clean) h z = clean
content_written s p (contents.Command (Compact i)) h (one n z) = compact (n, refl)
content_written s p (contents.Kv k) h z = go k.op h z
  where
    go : (o : Op) → op_inside s k.key o ≡ true → Small (numbers_of (contents.Kv (record { key = k.key; op = o }))) → Contents (NumberIn Plain) (contents.Kv (key_at p k.key o)) p (op_bytes s k.key o)
    go (Put v) i (one a (one b c)) =
        let both : (inside s k.key ≡ true) × (inside s v ≡ true) = (and-eq-true_iff _ _).0 i in
        let e : p + 1 + length (span_bytes s k.key) ≡ p + 1 + length (shortest k.key.len) + k.key.len = omega (arith, span_length_lem s k.key both.0) in
        rw e at (put (span_written s (p + 1) k.key both.0 a) (span_written s (p + 1 + length (span_bytes s k.key)) v both.1 b))
    go Del i (one a c) = delete (span_written s (p + 1) k.key i a)

tails_written : (i t : ℕ) (lengths : List ℕ) → sum_of t lengths ≤ 4294967295 → Tails (NumberIn Plain) (length lengths) i (rows_from i t lengths) t (sum_of t lengths) (tails_bytes lengths t)
unfolding sum_of tails_bytes rows_from
tails_written i t [] h = no_more
tails_written i t (n ∷ lengths) h =
    let e : t + n - t ≡ n = omega arith in
    let small : t + n < 2 ^ 64 = omega (arith, sum_rises (t + n) lengths) in
    let rises : t ≤ t + n = omega arith in
    let number : NumberIn Plain (t + n) (shortest (t + n)) = (small, refl) in
    rw e at (next number rises (tails_written (i + 1) (t + n) lengths h))

rows_fit : (i t : ℕ) (lengths : List ℕ) → i + length lengths ≤ 2 ^ 64 → sum_of t lengths ≤ 4294967295 → Each RowFits (rows_from i t lengths)
unfolding sum_of rows_from
rows_fit i t [] h g = none
rows_fit i t (n ∷ lengths) h g =
    let fits : RowFits (record { index = i; entry_offset = t; entry_len = n }) = record { index = omega arith; tail = omega (arith, sum_rises (t + n) lengths) } in
    one fits (rows_fit (i + 1) (t + n) lengths (omega arith) g)

-- ---- an item

same_type : (p : ℕ) (k : LogItemContent) → type_of (content_at p k) ≡ type_of k
unfolding content_at
same_type p (contents.EntryIndexes e) = refl
same_type p (contents.Command c) = refl
same_type p (contents.Kv k) = refl

-- No tails are no tails from any index on.
no_index : {n i j t u : ℕ} {rows : List EntryIndex} {x : List ℕ} → n ≡ 0 → Tails (NumberIn Plain) n i rows t u x → Tails (NumberIn Plain) n j rows t u x
no_index e no_more = no_more
no_index e (next a b g) = absurd (omega arith)

-- The tails of a content are those of the entries that it states.
stated_tails : (k : LogItemContent) (p t u : ℕ) (lengths : List ℕ) {x : List ℕ} → length lengths ≡ (entries_of k).count
    → Tails (NumberIn Plain) (length lengths) (entries_of k).first_index (rows_from (entries_of k).first_index t lengths) t u x
    → Tails (NumberIn Plain) (entries_of (content_at p k)).count (entries_of (content_at p k)).first_index (rows_from (entries_of k).first_index t lengths) t u x
unfolding content_at stated
stated_tails (contents.EntryIndexes e) p t u lengths {x} n h = go e.count (rw n at h)
  where
    go : (m : ℕ) → Tails (NumberIn Plain) m e.first_index (rows_from e.first_index t lengths) t u x
        → Tails (NumberIn Plain) (stated m e.first_index).count (stated m e.first_index).first_index (rows_from e.first_index t lengths) t u x
    go zero g = no_index refl g
    go (suc m) g = g
stated_tails (contents.Command c) p t u lengths n h = rw n at h
stated_tails (contents.Kv k) p t u lengths n h = rw n at h

-- ---- reading it back

rows_from_length : (i t : ℕ) (lengths : List ℕ) → length (rows_from i t lengths) ≡ length lengths
unfolding rows_from
rows_from_length i t [] = refl
rows_from_length i t (n ∷ lengths) = ap suc (rows_from_length (i + 1) (t + n) lengths)

module _ (s : List ℕ) {b : List ℕ} where
  span_kept : {p q : ℕ} (k : Span) → inside s k ≡ true → At b p q (span_bytes s k) → bytes_of b (span_at p k) ≡ bytes_of s k
  unfolding span_bytes
  span_kept {p} {q} k h f = let c = (cut (shortest k.len) f).1 in rw c.stand (take_at (bytes_of s k) (drop q b) k.len (part_length s k h))

  content_kept : {p q : ℕ} (k : LogItemContent) → content_inside s k ≡ true → At b p q (content_bytes s k)
      → map (bytes_of b) (spans_of (content_at p k)) ≡ map (bytes_of s) (spans_of k)
  unfolding content_at content_bytes spans_of key_at op_bytes
  content_kept (contents.EntryIndexes e) h f = refl
  content_kept (contents.Command c) h f = refl
  content_kept {p} {q} (contents.Kv k) h f = go k.op h f
    where
      go : (o : Op) → op_inside s k.key o ≡ true → At b p q (op_bytes s k.key o)
          → map (bytes_of b) (spans_of (contents.Kv (key_at p k.key o))) ≡ map (bytes_of s) (spans_of (contents.Kv (record { key = k.key; op = o })))
      go (Put v) i f =
          let both : (inside s k.key ≡ true) × (inside s v ≡ true) = (and-eq-true_iff _ _).0 i in
          let c = cut (span_bytes s k.key) (cut (1 ∷ []) f).1 in
          let e : p + 1 + length (span_bytes s k.key) ≡ p + 1 + length (shortest k.key.len) + k.key.len = omega (arith, span_length_lem s k.key both.0) in
          let key = span_kept k.key both.0 c.0 in
          let value = rw e at (span_kept v both.1 c.1) in
          cc
      go Del i f = let key = span_kept k.key i (cut (2 ∷ []) f).1 in cc

-- What a writer can write: spans in the store, numbers of 64 bits, a length for each row, and tails within the ceiling.
pub record Writable (s : List ℕ) (x : LogItem) (lengths : List ℕ) (t : ℕ) : Type 0 where
  pub spans : content_inside s x.content ≡ true
  pub numbers : Small (x.raft_group_id ∷ numbers_of x.content)
  pub lent : (entries_of x.content).count ≤ length lengths
  pub tails : sum_of t (row_lengths x lengths) ≤ 4294967295

module _ (s : List ℕ) (x : LogItem) (lengths : List ℕ) (t : ℕ) (w : Writable s x lengths t) where
  rows_length : length (row_lengths x lengths) ≡ (entries_of x.content).count
  rows_length = length-take (entries_of x.content).count lengths ∙ omega (arith, w.lent)

  -- What is written at the place p spells the item as it is there, its rows, and the total after it.
  pub written_item : (p : ℕ) → OneItem (NumberIn Plain) (item_at p x) (item_rows_of x lengths t) t (sum_of t (row_lengths x lengths)) p (item_bytes s x lengths t)
  unfolding item_at item_rows_of item_bytes head_bytes
  written_item p = go w.numbers
    where
      go : Small (x.raft_group_id ∷ numbers_of x.content)
          → OneItem (NumberIn Plain) (item_at p x) (item_rows_of x lengths t) t (sum_of t (row_lengths x lengths)) p (item_bytes s x lengths t)
      go (one g z) =
          let q : ℕ = p + length (shortest x.raft_group_id) + 1 in
          let number : NumberIn Plain x.raft_group_id (shortest x.raft_group_id) = (g, refl) in
          let tails = stated_tails x.content q t _ (row_lengths x lengths) rows_length (tails_written _ t (row_lengths x lengths) w.tails) in
          rw append_assoc (rw (same_type q x.content) at (item number (content_written s q x.content w.spans z) tails))

  -- Where its bytes stand, the item is read as it is there, with its rows and the total after it, where e entries are before it.
  pub read_item_at : (form : Form) (e : ℕ) {b : List ℕ} {p q : ℕ} → At b p q (item_bytes s x lengths t) → e + (entries_of x.content).count ≤ 1024
      → (entries_of x.content).first_index + (entries_of x.content).count ≤ 2 ^ 64
      → one_item form b e t p ≡ got (record { item = item_at p x; rows = item_rows_of x lengths t; total = sum_of t (row_lengths x lengths) }) q
  unfolding item_rows_of
  read_item_at form e {b} {p} {q} f few last =
      let i : ℕ = (entries_of x.content).first_index in
      complete_item form e (in_form form (written_item p)) (rows_fit i t (row_lengths x lengths) (omega (arith, rows_length)) w.tails)
      (omega (arith, rows_from_length i t (row_lengths x lengths), rows_length)) f

  -- Its spans there have the bytes that they had in the store.
  pub spans_kept : {b : List ℕ} {p q : ℕ} → At b p q (item_bytes s x lengths t) → map (bytes_of b) (spans_of (item_at p x).content) ≡ map (bytes_of s) (spans_of x.content)
  unfolding item_bytes head_bytes item_at
  spans_kept f =
      let c = (cut (shortest x.raft_group_id) (cut (head_bytes s x) f).0).1 in
      content_kept s x.content w.spans (cut (type_of x.content ∷ []) c).1

  -- Reading what was written gives the item, its rows, the total and the next place, and its spans have the bytes that they had in the store.
  pub read_written_item : (form : Form) (e : ℕ) (out : List ℕ) (at : ℕ) → at + length (item_bytes s x lengths t) ≤ length out
      → e + (entries_of x.content).count ≤ 1024 → (entries_of x.content).first_index + (entries_of x.content).count ≤ 2 ^ 64
      → (one_item form (placed out at (item_bytes s x lengths t)) e t at
      ≡ got (record { item = item_at at x; rows = item_rows_of x lengths t; total = sum_of t (row_lengths x lengths) }) (at + length (item_bytes s x lengths t)))
      × (map (bytes_of (placed out at (item_bytes s x lengths t))) (spans_of (item_at at x).content) ≡ map (bytes_of s) (spans_of x.content))
  read_written_item form e out at room few last =
      let here : Room out at (item_bytes s x lengths t) = record { fits = room } in
      let f = stored_stands here (stored_placed here refl refl) in
      (read_item_at form e f few last, spans_kept f)

-- The first index is among the numbers of a content.
pub first_small : (k : LogItemContent) → Small (numbers_of k) → (entries_of k).first_index < 2 ^ 64
unfolding numbers_of
first_small (contents.EntryIndexes e) (one n (one i z)) = i
first_small (contents.Command c) z = lit< tt
first_small (contents.Kv k) z = lit< tt

-- What `encode` does not refuse can be written, fits, and can be read.
pub record ItemAccepted (s : List ℕ) (x : LogItem) (lengths : List ℕ) (t : ℕ) (out : List ℕ) (at : ℕ) : Type 0 where
  pub writable : Writable s x lengths t
  pub room : at + length (item_bytes s x lengths t) ≤ length out
  pub few : (entries_of x.content).count ≤ 1024
  pub last : (entries_of x.content).first_index + (entries_of x.content).count ≤ 2 ^ 64

-- Where nothing is refused, neither is what is looked at first, nor what is looked at then.
neither_refused : (r : Checked Reason) {m : Checked Reason} → ◌>>=◌ r (λ u. m) ≡ fine → (r ≡ fine) × (m ≡ fine)
neither_refused (Ok u) e = (refl, e)
neither_refused (Err x) e = absurd (cc)

pub encode_accepted : (s : List ℕ) (x : LogItem) (lengths : List ℕ) (t : ℕ) (out : List ℕ) (at : ℕ) → Small (x.raft_group_id ∷ numbers_of x.content)
    → item_refusal s x lengths t out at ≡ fine → ItemAccepted s x lengths t out at
unfolding item_refusal
encode_accepted s x lengths t out at (one g z) h =
    let long : ℕ = at + length (item_bytes s x lengths t) in
    let a = neither_refused (content_refusal s false 0 (length lengths) x.content) h in
    let b = neither_refused (tail_refusal x lengths t) a.1 in
    let c = passed (leb long (length out)) _ b.1 in
    let d = passed (not (ltb 4294967295 (sum_of t (row_lengths x lengths)))) _ b.0 in
    let allowed = content_allowed s false 0 (length lengths) x.content a.0 in
    record {
      writable = record {
        spans = content_inside_lem s false 0 (length lengths) x.content a.0;
        numbers = one g z;
        lent = omega (arith, allowed.lent (omega arith));
        tails = ltb-false _ _ (not-true _ d.0);
      };
      room = leb-true _ _ c.0;
      few = omega (arith, allowed.few (omega arith));
      last = allowed.last (omega (arith, first_small x.content z));
    }

-- ---- what is promised

module _ (s : List ℕ) (x : LogItem) (lengths : List ℕ) (t : ℕ) (out : List ℕ) (at : ℕ) (small : Small (x.raft_group_id ∷ numbers_of x.content))
    (fine : item_refusal s x lengths t out at ≡ fine) where
  -- What `LogItem::encode` does not refuse is spelled, with shortest numbers, by the item with its places worked out.
  pub encode_spelled : OneItem (NumberIn Plain) (item_at at x) (item_rows_of x lengths t) t (sum_of t (row_lengths x lengths)) at (item_bytes s x lengths t)
  encode_spelled = written_item s x lengths t (encode_accepted s x lengths t out at small fine).writable at

  -- It is read back, and its spans have the bytes that they had in the store.
  pub encode_read_back : (form : Form) (e : ℕ) → e + (entries_of x.content).count ≤ 1024
      → (one_item form (placed out at (item_bytes s x lengths t)) e t at
      ≡ got (record { item = item_at at x; rows = item_rows_of x lengths t; total = sum_of t (row_lengths x lengths) }) (at + length (item_bytes s x lengths t)))
      × (map (bytes_of (placed out at (item_bytes s x lengths t))) (spans_of (item_at at x).content) ≡ map (bytes_of s) (spans_of x.content))
  encode_read_back form e few =
      let a = encode_accepted s x lengths t out at small fine in
      read_written_item s x lengths t a.writable form e out at a.room few a.last
