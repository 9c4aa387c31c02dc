-- What document 01 says of the stepping reader, proved of the definitions that the contracts cite.
-- Assumes nothing.
use Rattle.std.proofs.Common.{◌≡◌, ℕ, zero, suc, ◌<◌, ◌≤◌, List, Some, None, Ok, Err, length, get_or, take, refl, ap, ◌∙◌, zero-add, arith, Bor}
use Rattle.refusal.specs.declared.Reason.{Reason}
use Rattle.refusal.specs.Number.{refusal_of}
use Rattle.log_item.specs.declared.Span.{Span}
use Rattle.log_item.specs.declared.LogItem.{LogItem}
use Rattle.log_item.specs.declared.EntryIndex.{EntryIndex}
use Rattle.log_batch.specs.Seal.{sealed_part}
use Rattle.log_batch.specs.Reading.{accepted, rejected}
use Rattle.log_batch.specs.Body.{read_body}
use Rattle.log_item.specs.Blank.{blank_item}
use Rattle.log_batch.specs.Table.{table_of}
use Rattle.log_batch.proofs.Tables.{in_table}
use Rattle.item_reader.specs.declared.Cursor.{Cursor}
use Rattle.item_reader.specs.declared.EntryRows.{EntryRows}
use Rattle.item_reader.specs.declared.ItemReader.{ItemReader}
use Rattle.item_reader.specs.Cursor.{at_first, after_count, started, after_steps, nth_step}
use Rattle.item_reader.specs.Reader.{reader_at, opened, step_from, after_call, after_calls, nth_of}
use Rattle.item_reader.specs.Stepping.{StepsThrough}
use Rattle.item_reader.specs.Stepping as go
use Rattle.item_reader.proofs.Opened.{in_body, opening_good, opening_bad}
use Rattle.item_reader.proofs.Through as through

module _ (body : Bor (List ℕ)) (signature : ℕ) where
  -- Opening does the plain reading; then the same items in the same order and an end, however often it is asked again. The rows of the items,
  -- each item's read one after the other, are the rows of the plain reading.
  pub same_items : {xs : List LogItem} {rows : List EntryIndex} {u q : ℕ} → read_body body.now signature ≡ accepted xs rows u q
      → StepsThrough (opened body signature) xs rows
  same_items {xs} e =
      rw (opening_good body.now signature e)
      (through.steps_through (length xs) (reader_at body (at_first (after_count (sealed_part body.now)) (length xs) None)) refl
      (zero-add (length xs)) (in_body body.now signature e))

  -- Or none and the same refusal, at every call.
  pub same_refusal : {r : Reason} {i : ℕ} → read_body body.now signature ≡ rejected r i → (k : ℕ)
      → nth_of (opened body signature) k ≡ Err (refusal_of r i)
  same_refusal {r} {i} e k =
      rw (opening_bad body.now signature e)
      (through.at_refusal (reader_at body (at_first 0 0 (Some (refusal_of r i)))) refl k)

  -- The items and rows are those of the table that the plain reading fills.
  pub same_table : (place block : Span) {xs : List LogItem} {rows : List EntryIndex} {u q : ℕ} → read_body body.now signature ≡ accepted xs rows u q
      → let t = table_of place block (read_body body.now signature) in
      StepsThrough (opened body signature) (take t.item_count t.items) (take t.entry_count t.entries)
  same_table place block {xs} {rows} {u} {q} e = let t = in_table place block xs rows u q in rw (e, t.0, t.1) (same_items e)

-- Call number k, counted from 0, hands out item number k.
pub item_by_number : {r : ItemReader} {xs : List LogItem} {rows : List EntryIndex} → StepsThrough r xs rows → (k : ℕ) → k < length xs
    → (p : EntryRows) × (nth_of r k ≡ Ok (Some (record { item = get_or xs k blank_item; rows = p })))
unfolding after_calls
item_by_number (go.StepsThrough.end f) k h = absurd (omega arith)
item_by_number (go.StepsThrough.then {p = p} a g s) zero h = (p, a)
item_by_number {r} (go.StepsThrough.then a g s) (suc k) h = let n = item_by_number s k (omega arith) in (n.0, through.afterwards r k ∙ n.1)

-- Each call after the last item answers the end.
pub end_after : {r : ItemReader} {xs : List LogItem} {rows : List EntryIndex} → StepsThrough r xs rows → (k : ℕ) → length xs ≤ k → nth_of r k ≡ Ok None
end_after (go.StepsThrough.end f) k h = f k
end_after (go.StepsThrough.then a g s) zero h = absurd (omega arith)
end_after {r} (go.StepsThrough.then a g s) (suc k) h = through.afterwards r k ∙ end_after s k (omega arith)

-- ---- cursors

-- A cursor that is stepped again and again stands where the reader of its body does.
stands_with : (body : Bor (List ℕ)) (c : Cursor) (k : ℕ) → reader_at body (after_steps body.now c k) ≡ after_calls (reader_at body c) k
unfolding after_steps after_calls
stands_with body c zero = refl
stands_with body c (suc k) = ap after_call (stands_with body c k)

-- A cursor started on a body answers, step by step, what a reader opened on it does, call by call.
pub same_steps : (body : Bor (List ℕ)) (signature k : ℕ) → nth_step body.now (started body.now signature) k ≡ nth_of (opened body signature) k
same_steps body signature k = ap (λ (r : ItemReader). (step_from r).answer) (stands_with body (started body.now signature) k)

module _ (body : Bor (List ℕ)) (signature : ℕ) where
  -- So step number k, counted from 0, hands out item number k of the plain reading, and each step after the last the end.
  pub cursor_items : {xs : List LogItem} {rows : List EntryIndex} {u q : ℕ} → read_body body.now signature ≡ accepted xs rows u q → (k : ℕ) → k < length xs
      → (p : EntryRows) × (nth_step body.now (started body.now signature) k ≡ Ok (Some (record { item = get_or xs k blank_item; rows = p })))
  cursor_items e k h = let n = item_by_number (same_items body signature e) k h in (n.0, same_steps body signature k ∙ n.1)

  pub cursor_end : {xs : List LogItem} {rows : List EntryIndex} {u q : ℕ} → read_body body.now signature ≡ accepted xs rows u q → (k : ℕ) → length xs ≤ k
      → nth_step body.now (started body.now signature) k ≡ Ok None
  cursor_end e k h = same_steps body signature k ∙ end_after (same_items body signature e) k h

  -- Or, at every step, the same refusal.
  pub cursor_refusal : {r : Reason} {i : ℕ} → read_body body.now signature ≡ rejected r i → (k : ℕ)
      → nth_step body.now (started body.now signature) k ≡ Err (refusal_of r i)
  cursor_refusal e k = same_steps body signature k ∙ same_refusal body signature e k
