-- The table of each answer: of a refusal, and of what the loop has filled.
-- Assumes nothing.
use Rattle.std.proofs.Common.{◌≡◌, ℕ, ◌≤◌, List, take, Option, Some, None, sym, ◌∙◌, arith}
use Rattle.refusal.specs.declared.Reason.{Reason}
use lib.Seq.{take-append_seam}
use Rattle.refusal.specs.declared.Refusal.{Refusal}
use Rattle.refusal.specs.Number.{refusal_of}
use Rattle.log_item.specs.declared.Span.{Span}
use Rattle.log_item.specs.declared.LogItem.{LogItem}
use Rattle.log_item.specs.declared.EntryIndex.{EntryIndex}
use Rattle.log_batch.specs.Reading.{Answer, accepted, rejected}
use Rattle.log_batch.specs.Table.{empty_table, table_of}
use Rattle.log_batch.specs.declared.LogItemBatch.{LogItemBatch}
use Rattle.log_batch.proofs.FilledRows.{rows_length, rows_pad}
use Rattle.log_batch.proofs.Filling.{Filling}

-- ---- a table by its parts

abbrev table : Span → Span → List LogItem → ℕ → List EntryIndex → ℕ → ℕ → ℕ → Option Refusal → LogItemBatch
table body block xs i rows j t p none =
    record {
      items = xs;
      item_count = i;
      entries = rows;
      entry_count = j;
      total = t;
      next = p;
      body = body;
      block = block;
      refusal = none;
    }

same_table : (body block : Span) {xs ys : List LogItem} {i k : ℕ} {rows more : List EntryIndex} {j m : ℕ} (t p : ℕ) {none nil : Option Refusal}
    → xs ≡ ys → i ≡ k → rows ≡ more → j ≡ m → none ≡ nil → table body block xs i rows j t p none ≡ table body block ys k more m t p nil
same_table body block t p a b c d e = rw (a, b, c, d, e)

-- The table of a refusal.
pub refused_table : (body block : Span) {a : Answer} {t : LogItemBatch} {r : Reason} {i : ℕ} → t ≡ empty_table (Some (refusal_of r i)) → a ≡ rejected r i → t ≡ table_of body block a
unfolding table_of
refused_table body block e h = rw h e

-- The table of an accepted answer has its list in the rows that it counts.
pub in_table : (body block : Span) (xs : List LogItem) (rows : List EntryIndex) (u q : ℕ) → let t = table_of body block (accepted xs rows u q) in
    (take t.item_count t.items ≡ xs) × (take t.entry_count t.entries ≡ rows)
unfolding table_of
in_table body block xs rows u q = (take-append_seam xs _, take-append_seam rows _)

-- The table that the loop leaves is that of the answer.
pub filled : (body : Span) {block nowhere : Span} {s : List ℕ} {k : ℕ} {xs : List LogItem} {rows : List EntryIndex} {none : Option Refusal} {i j p t n index : ℕ} {a : Answer}
    → block ≡ nowhere → none ≡ None → Filling s k xs rows i j p t n index → k ≤ i → a ≡ accepted (take i xs) (take j rows) t p
    → table body block xs k rows j t p none ≡ table_of body nowhere a
unfolding table_of
filled body {block} {nowhere} {s} {k} {xs} {rows} {none} {i} {j} {p} {t} {n} b unrefused f all e =
    let same : k ≡ i = omega (arith, f.most) in
    let few : i ≤ 256 = omega (arith, f.most, f.few) in
    let room : j ≤ 1024 = omega (arith, f.room) in
    rw (e, b)
    (same_table body nowhere t p (rows_pad f.filled_items few) (same ∙ sym (rows_length f.filled_items few)) (rows_pad f.filled_rows room)
    (sym (rows_length f.filled_rows room)) unrefused)
