-- Lent words, cut into rows, spell what the rows of the words spell; and a body that is not refused is written from items alone.
-- Assumes nothing.
use Prim.Native.Nat.{ℕ, zero, suc, ◌+◌, ◌*◌, ◌/◌, ◌<◌}
use mathlib.Core.Path.{◌≡◌, refl, ap, ◌∙◌}
use mathlib.Core.Bool.{Bool}
use mathlib.Core.List.{List}
use native.Mathlib.Nat.{suc-mul}
use native.Mathlib.Numerals.{add-one}
use native.Mathlib.Omega.{arith}
use lib.ListN.{length, get_or, take, drop}
use Rattle.std.specs.Prelude.{Result, Ok, map}
use Rattle.std.specs.Simd.{first_chunks}
use Rattle.std.proofs.lemmas.List.{drop-drop, get_or-drop, get_or-take}
use Rattle.refusal.specs.declared.Refusal.{Refusal}
use Rattle.item_row.specs.Row.{item_of_row}
use Rattle.list_writer.specs.declared.Measured.{Measured}
use Rattle.list_writer.specs.Answers.{measure_of, MeasuredWritten}
use Rattle.list_writer.specs.Rows as list
use Rattle.list_writer.specs.Rows.{rows_measure}
use Rattle.list_writer.proofs.Rows as accepted
use Rattle.rows_writer.specs.Rows.{rows_from, rows_of, row_items, lengths_from, entry_lengths, measure_rows, rows_bytes}

-- a word of a row that is cut out
word : (words : List ℕ) (at n k : ℕ) → k < n → get_or (take n (drop at words)) k 0 ≡ get_or words (at + k) 0
word words at n k h = get_or-take n (drop at words) k 0 h ∙ get_or-drop at words k 0

row_cut : (words : List ℕ) (i : ℕ) → item_of_row (take 7 (drop (i * 7) words)) 0 ≡ item_of_row words i
unfolding item_of_row
row_cut words i =
    let first : i * 7 + 0 ≡ i * 7 = omega arith in
    let a = word words (i * 7) 7 0 (omega arith) ∙ ap (λ (k : ℕ). get_or words k 0) first in
    cc (a, word words (i * 7) 7 1 (omega arith), word words (i * 7) 7 2 (omega arith), word words (i * 7) 7 3 (omega arith), word words (i * 7) 7 4 (omega arith), word words (i * 7) 7 5 (omega arith), word words (i * 7) 7 6 (omega arith))

behind : (words : List ℕ) (n i : ℕ) → drop n (drop (i * n) words) ≡ drop ((i + 1) * n) words
behind words n i = let e : i * n + n ≡ (i + 1) * n = rw (add-one, suc-mul) in drop-drop n (i * n) words ∙ ap (λ (k : ℕ). drop k words) e

items_cut : (words : List ℕ) (n i : ℕ) → map (λ (row : List ℕ). item_of_row row 0) (first_chunks 7 n (drop (i * 7) words)) ≡ rows_from words n i
unfolding rows_from
items_cut words zero i = refl
items_cut words (suc n) i = rw (row_cut words i, behind words 7 i, items_cut words n (i + 1))

lengths_cut : (words : List ℕ) (n j : ℕ) → map (λ (row : List ℕ). get_or row 2 0) (first_chunks 3 n (drop (j * 3) words)) ≡ lengths_from words n j
unfolding lengths_from
lengths_cut words zero j = refl
lengths_cut words (suc n) j = rw (word words (j * 3) 3 2 (omega arith), behind words 3 j, lengths_cut words n (j + 1))

module _ (s : List ℕ) (checked : Bool) (items entries : List ℕ) where
  same_items : map (λ (row : List ℕ). item_of_row row 0) (first_chunks 7 (length items / 7) items) ≡ rows_of items
  same_items = items_cut items (length items / 7) 0

  same_lengths : map (λ (row : List ℕ). get_or row 2 0) (first_chunks 3 (length entries / 3) entries) ≡ entry_lengths entries
  unfolding entry_lengths
  same_lengths = lengths_cut entries (length entries / 3) 0

  module _ {rows lens : List (List ℕ)} (a : rows ≡ first_chunks 7 (length items / 7) items) (b : lens ≡ first_chunks 3 (length entries / 3) entries) where
    pub rows_measured : rows_measure s checked (map (λ (row : List ℕ). item_of_row row 0) rows) (map (λ (row : List ℕ). get_or row 2 0) lens)
        ≡ measure_rows s checked items entries
    unfolding measure_rows
    rows_measured = rw (a, b, same_items, same_lengths)

    pub rows_written : (signature : ℕ) {out later : List ℕ} {at : ℕ} {r : Result ℕ Refusal}
        → MeasuredWritten (rows_measure s checked (map (λ (row : List ℕ). item_of_row row 0) rows) (map (λ (row : List ℕ). get_or row 2 0) lens))
        (list.rows_bytes s (map (λ (row : List ℕ). item_of_row row 0) rows) (map (λ (row : List ℕ). get_or row 2 0) lens) signature) out at r later
        → MeasuredWritten (measure_rows s checked items entries) (rows_bytes s items entries signature) out at r later
    unfolding measure_rows
    rows_written signature w = rw (a, b, same_items, same_lengths) at w

  -- A body that is not refused is one of items alone.
  pub rows_accepted : {m : Measured} → Ok m ≡ measure_rows s checked items entries
      → (length (row_items items) ≡ length (rows_of items)) × (Ok m ≡ measure_of s checked (row_items items) (entry_lengths entries))
  unfolding measure_rows
  rows_accepted {m} e = let k = accepted.rows_accepted s checked (rows_of items) (entry_lengths entries) m e in (k.1, k.0)
