-- The items and the lengths that a table of rows holds: how many, and that they are those of a list of as many rows.
-- Assumes nothing.
use Prim.Native.Nat.{ℕ, zero, suc, ◌≤◌, ◌<◌, min}
use mathlib.Core.Path.{◌≡◌, refl, sym, ap, ◌∙◌}
use mathlib.Core.Bool.{Bool}
use mathlib.Core.List.{List, [], ◌∷◌}
use native.Mathlib.Omega.{arith}
use lib.ListN.{length, take}
use Rattle.std.specs.Prelude.{Result, Ok, map}
use Rattle.std.proofs.lemmas.List.{take_min}
use Rattle.refusal.specs.First.{fine}
use Rattle.refusal.specs.declared.Reason.TheVariants.{ItemsTooMany}
use Rattle.refusal.specs.declared.Refusal.{Refusal}
use Rattle.log_item.specs.declared.LogItem.{LogItem}
use Rattle.log_item.specs.declared.EntryIndex.{EntryIndex}
use Rattle.list_writer.specs.Bytes.{items_of, lengths_of, body_bytes}
use Rattle.list_writer.specs.Refusing.{refused}
use Rattle.list_writer.specs.Answers.{measure_of, MeasuredWritten}
use Rattle.list_writer.specs.Rows.{items_before, row_behind, rows_measure, rows_bytes}
use Rattle.list_writer.proofs.Measuring.{measured_9}
use Rattle.list_writer.proofs.Rows.{all_measured}
use Rattle.list_writer.proofs.Bodies.{refused_laid}

pub items_length : (items : List LogItem) (n : ℕ) → length (items_of items n) ≡ n
unfolding items_of
items_length items zero = refl
items_length [] (suc n) = ap suc (items_length [] n)
items_length (x ∷ items) (suc n) = ap suc (items_length items n)

items_taken : (items : List LogItem) (n : ℕ) → n ≤ length items → items_of items n ≡ take n items
unfolding items_of
items_taken items zero h = refl
items_taken [] (suc n) h = absurd (omega arith)
items_taken (x ∷ items) (suc n) h = ap (λ (l : List LogItem). x ∷ l) (items_taken items n (omega arith))

-- A list of items is written as they are.
items_rows : (xs : List LogItem) → (items_before (map Ok xs) ≡ xs) × (row_behind (map Ok xs) ≡ fine)
unfolding items_before row_behind
items_rows [] = (refl, refl)
items_rows (x ∷ xs) = let k = items_rows xs in (ap (λ (l : List LogItem). x ∷ l) k.0, k.1)

module _ (s : List ℕ) (checked : Bool) (items : List LogItem) (n : ℕ) (entries : List EntryIndex) (m : ℕ) where
  pub table_many : 256 < n → refused ItemsTooMany 0 ≡ measure_of s checked (items_of items n) (lengths_of entries m)
  table_many h = measured_9 s checked (items_of items n) (lengths_of entries m) (omega (arith, items_length items n))

  pub table_refused : (signature : ℕ) (out : List ℕ) (at : ℕ) → 256 < n
      → MeasuredWritten (measure_of s checked (items_of items n) (lengths_of entries m)) (body_bytes s (items_of items n) (lengths_of entries m) signature) out at
      (refused ItemsTooMany 0) out
  table_refused signature out at h = refused_laid out at _ (sym (table_many h))

  module _ (h : n ≤ 256) (a : length items ≡ 256) (b : length entries ≡ 1024) where
    same_lengths : lengths_of entries m ≡ map (λ (r : EntryIndex). r.entry_len) (take (min m 1024) entries)
    unfolding lengths_of
    same_lengths = ap (λ (l : List EntryIndex). map (λ (r : EntryIndex). r.entry_len) l) (sym (rw b at (take_min m entries)))

    pub table_measured : rows_measure s checked (map (λ (x : LogItem). Ok x) (take n items)) (map (λ (r : EntryIndex). r.entry_len) (take (min m 1024) entries))
        ≡ measure_of s checked (items_of items n) (lengths_of entries m)
    table_measured =
        let k = items_rows (take n items) in
        sym (all_measured s checked (map (λ (x : LogItem). Ok x) (take n items)) (map (λ (r : EntryIndex). r.entry_len) (take (min m 1024) entries)) k.1)
        ∙ (rw (k.0, items_taken items n (omega arith), same_lengths))

    pub table_written : (signature : ℕ) {k : ℕ} {out later : List ℕ} {at : ℕ} {r : Result ℕ Refusal} → k ≡ min m 1024
        → MeasuredWritten (rows_measure s checked (map (λ (x : LogItem). Ok x) (take n items)) (map (λ (r : EntryIndex). r.entry_len) (take k entries)))
        (rows_bytes s (map (λ (x : LogItem). Ok x) (take n items)) (map (λ (r : EntryIndex). r.entry_len) (take k entries)) signature) out at r later
        → MeasuredWritten (measure_of s checked (items_of items n) (lengths_of entries m)) (body_bytes s (items_of items n) (lengths_of entries m) signature) out at r later
    table_written signature e w = rw (← table_measured, items_taken items n (omega arith), same_lengths) (rw (e, (items_rows (take n items)).0) at w)
