-- Stepping through what a reading answers: item after item, and within an item row after row.
-- Assumes nothing.
use Rattle.std.proofs.Common.{◌≡◌, ℕ, zero, suc, ◌+◌, ◌-◌, ◌%◌, ◌^◌, ◌<◌, ◌≤◌, List, [], ◌∷◌, ◌++◌, Option, Some, None, Result, Ok, Err, length, refl, ap, ◌∙◌, arith}
use Rattle.refusal.specs.declared.Refusal.{Refusal}
use Rattle.log_item.specs.Got.{got}
use Rattle.log_item.specs.Entries.{entries_of, tail_row}
use Rattle.log_item.specs.Reading.{head, tail, tails, one_item}
use Rattle.log_item.specs.Answers.{counted_item}
use Rattle.log_item.specs.declared.Form.TheVariants.{Any}
use Rattle.log_item.specs.declared.LogItem.{LogItem}
use Rattle.log_item.specs.declared.EntryIndex.{EntryIndex}
use Rattle.log_item.specs.declared.ItemRead.{ItemRead}
use Rattle.log_item.proofs.Holds.{bind_got}
use Rattle.log_item.proofs.Counted.{item_got_lem}
use Rattle.log_item.proofs.Known.{head_known}
use Rattle.log_batch.specs.Seal.{sealed_part}
use Rattle.log_batch.specs.Reading.{accepted, items}
use Rattle.log_batch.proofs.Accepts.{front_got, before_got}
use Rattle.item_reader.specs.declared.Cursor.{Cursor}
use Rattle.item_reader.specs.declared.EntryRows.{EntryRows}
use Rattle.item_reader.specs.declared.Found.{Found}
use Rattle.item_reader.specs.declared.ItemReader.{ItemReader}
use Rattle.item_reader.specs.declared.Stepped.{Stepped}
use Rattle.item_reader.specs.Rows.{next_row}
use Rattle.item_reader.specs.Steps.{rows_standing, stayed, step_over}
use Rattle.item_reader.specs.Reader.{reader_at, step_from, after_call, after_calls, nth_of}
use Rattle.item_reader.specs.Stepping.{GoesThrough, StepsThrough}
use Rattle.item_reader.specs.Stepping as go
use Rattle.item_reader.proofs.ItemLaws.{step_refused, step_end, step_item}

-- ---- rows

module _ (s : List ℕ) where
  next_of_tail : (n i j t p w q : ℕ) → j ≡ i → tail Any s t p ≡ got w q → next_row s (record { at = p; total = t; index = j; left = suc n })
      ≡ Ok (Some (record { row = tail_row i t w; rest = record { at = q; total = w; index = (j + 1) % 2 ^ 64; left = n } }))
  unfolding next_row
  next_of_tail n i j t p w q here f = let less : suc n - 1 ≡ n = omega arith in rw (f, here, less)

  -- n rows from the index i on. The index that is carried may come round to 0 once none is left.
  pub goes_through : (n i j t p : ℕ) → (0 < n → j ≡ i) → (0 < n → i + n ≤ 2 ^ 64) → {r : List EntryIndex × ℕ} {z : ℕ} → tails Any s n i t p ≡ got r z
      → GoesThrough s (record { at = p; total = t; index = j; left = n }) r.0
  unfolding tails next_row
  goes_through zero i j t p same fits {r} e = let none : r.0 ≡ [] = cc in rw none (go.GoesThrough.end refl)
  goes_through (suc n) i j t p same fits {r} {z} e =
      let a = bind_got (tail Any s t p) _ e in
      let b = bind_got (tails Any s n (i + 1) a.0 a.1) _ a.3 in
      let here : j ≡ i = same (omega arith) in
      let rows : r.0 ≡ tail_row i t a.0 ∷ b.0.0 = cc b.3 in
      let turns : 0 < n → (j + 1) % 2 ^ 64 ≡ i + 1 = λ some. omega (arith, fits (omega arith)) in
      let room : 0 < n → i + 1 + n ≤ 2 ^ 64 = λ some. omega (arith, fits (omega arith)) in
      rw rows
      (go.GoesThrough.then (next_of_tail n i j t p a.0 a.1 here a.2)
      (goes_through n (i + 1) ((j + 1) % 2 ^ 64) a.0 a.1 turns room b.2))

-- ---- one call after the other

shifted : (r : ItemReader) (k : ℕ) → after_calls r (suc k) ≡ after_calls (after_call r) k
unfolding after_calls
shifted r zero = refl
shifted r (suc k) = ap after_call (shifted r k)

-- Call number k + 1 answers what call number k answers one step further on.
pub afterwards : (r : ItemReader) (k : ℕ) → nth_of r (suc k) ≡ nth_of (after_call r) k
afterwards r k = ap (λ (x : ItemReader). (step_from x).answer) (shifted r k)

-- ---- a reader that goes no further

module _ (r : ItemReader) {a : Result (Option Found) Refusal} (stuck : step_from r ≡ stayed r.cursor a) where
  stays : (k : ℕ) → after_calls r k ≡ r
  unfolding after_calls
  stays zero = refl
  stays (suc k) = ap after_call (stays k) ∙ ap (λ (s : Stepped). reader_at r.body s.cursor) stuck

  -- It answers the same at every call.
  pub stuck_answer : (k : ℕ) → nth_of r k ≡ a
  stuck_answer k = ap (λ (x : ItemReader). (step_from x).answer) (stays k) ∙ ap (λ (s : Stepped). s.answer) stuck

module _ (r : ItemReader) where
  pub at_end : r.cursor.refusal ≡ None → r.cursor.count ≤ r.cursor.item → (k : ℕ) → nth_of r k ≡ Ok None
  at_end none h = stuck_answer r (step_end r.body.now r.cursor none h)

  pub at_refusal : {why : Refusal} → r.cursor.refusal ≡ Some why → (k : ℕ) → nth_of r k ≡ Err why
  at_refusal e = stuck_answer r (step_refused r.body.now r.cursor e)

-- ---- items

-- the reader that stands after an item that ends at z, with so many entries and the total u after it
abbrev beyond : ItemReader → ℕ → ℕ → ℕ → ItemReader
beyond r z u used = reader_at r.body (record r.cursor { at = z; total = u; used = used; item = r.cursor.item + 1 })

module _ (r : ItemReader) (none : r.cursor.refusal ≡ None) (more : r.cursor.item < r.cursor.count) {x : LogItem} {q : ℕ} {o : List EntryIndex × ℕ} {z : ℕ}
    (h : head Any (sealed_part r.body.now) r.cursor.used r.cursor.at ≡ got x q)
    (e : tails Any (sealed_part r.body.now) (entries_of x.content).count (entries_of x.content).first_index r.cursor.total q ≡ got o z) where
  abbrev s : List ℕ
  s = sealed_part r.body.now

  abbrev rows : EntryRows
  rows = rows_standing (entries_of x.content) q r.cursor.total

  abbrev read : ItemRead
  read = record { item = x; tails = q; total = o.1; used = r.cursor.used + length o.0 }

  -- A step over an item whose head and tails are read.
  steps_over : step_from r ≡ step_over r.cursor (got read z)
  unfolding counted_item
  steps_over = step_item r.body.now r.cursor none more found
    where
      found : counted_item Any s r.cursor.used r.cursor.total r.cursor.at ≡ got read z
      found = rw (h, e)

  -- It hands out the item, whose rows are those of its tails, and then what the reader hands out after it.
  pub steps_item : {xs : List LogItem} {all : List EntryIndex} → StepsThrough (beyond r z o.1 (r.cursor.used + length o.0)) xs all
      → StepsThrough r (x ∷ xs) (o.0 ++ all)
  steps_item {xs} {all} rest =
      go.StepsThrough.then {r = r} {x = x} {p = rows} {xs = xs} {rows = o.0} {more = all} (ap (λ (a : Stepped). a.answer) steps_over)
      (goes_through s _ _ _ _ _ (λ _. refl) (head_known Any s r.cursor.used r.cursor.at h).last e)
      (rw (ap (λ (a : Stepped). reader_at r.body a.cursor) steps_over) rest)

steps_same : {r : ItemReader} {xs ys : List LogItem} {rows more : List EntryIndex} → xs ≡ ys → rows ≡ more → StepsThrough r ys more → StepsThrough r xs rows
steps_same e f h = rw (e, f) h

-- The items that are still to be read, and then the end.
pub steps_through : (k : ℕ) (r : ItemReader) → r.cursor.refusal ≡ None → r.cursor.item + k ≡ r.cursor.count → {xs : List LogItem} {all : List EntryIndex} {u q : ℕ}
    → items Any (sealed_part r.body.now) k r.cursor.item r.cursor.used r.cursor.total r.cursor.at ≡ accepted xs all u q → StepsThrough r xs all
unfolding items
steps_through zero r none count {xs} {all} e =
    let no_items : xs ≡ [] = cc in
    let no_rows : all ≡ [] = cc in
    rw (no_items, no_rows) (go.StepsThrough.end (at_end r none (omega arith)))
steps_through (suc k) r none count {xs} {all} {u} {q} e =
    let s : List ℕ = sealed_part r.body.now in
    let c : Cursor = r.cursor in
    let a = front_got c.item (one_item Any s c.used c.total c.at) _ e in
    let p = item_got_lem Any s c.used c.total c.at a.2 in
    let b = before_got a.0.item a.0.rows (items Any s k (c.item + 1) (c.used + length a.0.rows) a.0.total a.1) a.3 in
    steps_same b.3 b.4
    (steps_item r none (omega arith) p.1 p.2 (steps_through k (beyond r a.1 a.0.total (c.used + length a.0.rows)) none (omega arith) b.2))
