-- What document 01 says of bodies and batches that are written from lent rows, proved of the definitions that the contracts cite.
-- Assumes nothing.
use Prim.Native.Nat.{ℕ, zero, suc, ◌+◌, ◌*◌, ◌^◌, ◌<◌}
use mathlib.Core.Path.{◌≡◌}
use mathlib.Core.Bool.{Bool, true, false, cond}
use mathlib.Core.List.{List, ◌∷◌}
use mathlib.Core.Logic.{◌↔◌}
use lib.Dec.{eqb}
use lib.ListN.{take, drop, get_or}
use Rattle.words.specs.Byte.{Bytes}
use Rattle.log_item.specs.Each.{none, one}
use Rattle.log_item.specs.declared.LogItem.{LogItem}
use Rattle.log_item.specs.Relocated.{numbers_of, Small}
use Rattle.std.specs.Prelude.{Some, Result, Ok, Err}
use Rattle.refusal.specs.declared.Reason.{Reason}
use Rattle.item_row.specs.Row.{command_row, key_row, row_item, item_of_row, item_row_count}
use Rattle.list_writer.specs.Answers.{MeasuredWritten}
use Rattle.list_writer.specs.Rows.{items_before}
use Rattle.rows_writer.specs.Rows.{rows_from, row_items, entry_lengths, measure_rows, rows_bytes}
use Rattle.log_batch.specs.Reading.{rejected}
use Rattle.log_batch.specs.Body.{read_body}
use Rattle.log_batch.specs.Table.{empty_table}
use Rattle.log_batch.specs.Batch.{read_batch}
use Rattle.log_batch.specs.Writing.{AllSmall}
use Rattle.log_batch.specs.Written.{BatchWritten}
use Rattle.log_batch.proofs.Theorems.{body_under_another, batch_under_another}
use Rattle.batch_rows.proofs.RowsWritten.{rows_own}
use Rattle.refusal.specs.declared.Reason.TheVariants.{ChecksumWrong}
use Rattle.refusal.specs.Number.{refusal_of}

-- ---- the numbers of lent rows are words

-- An item's numbers are below 2^64, where there is one.
data RowSmall : Result LogItem Reason → Type 0 where
  small : {x : LogItem} → Small (x.raft_group_id ∷ numbers_of x.content) → RowSmall (Ok x)
  no_item : {r : Reason} → RowSmall (Err r)

either : (b : Bool) {x y : Result LogItem Reason} → RowSmall x → RowSmall y → RowSmall (cond b x y)
either true f g = f
either false f g = g

in_front_lem : {row : Result LogItem Reason} (rows : List (Result LogItem Reason)) → RowSmall row → AllSmall (items_before rows) → AllSmall (items_before (row ∷ rows))
unfolding items_before
in_front_lem rows (small f) g = one f g
in_front_lem rows no_item g = none

module _ (words : List ℕ) (word : (i : ℕ) → get_or words i 0 < 2 ^ 64) where
  row_small : (i : ℕ) → RowSmall (item_of_row words i)
  unfolding item_of_row row_item command_row key_row numbers_of
  row_small i =
      let type : ℕ = get_or words (i * 7 + 1) 0 in
      let kind : ℕ = get_or words (i * 7 + 2) 0 in
      let group = word (i * 7) in
      let a = word (i * 7 + 3) in
      let b = word (i * 7 + 4) in
      let d = word (i * 7 + 6) in
      either (eqb type 1) (small (one group (one a (one b none))))
      (either (eqb type 2) (either (eqb kind 1) (small (one group none)) (either (eqb kind 2) (small (one group (one a none))) no_item))
      (either (eqb type 3)
      (either (eqb kind 1) (small (one group (one b (one d none)))) (either (eqb kind 2) (small (one group (one b none))) no_item))
      no_item))

  items_small : (n i : ℕ) → AllSmall (items_before (rows_from words n i))
  unfolding rows_from items_before
  items_small zero i = none
  items_small (suc n) i = in_front_lem (rows_from words n (i + 1)) (row_small i) (items_small n (i + 1))

  rows_all_small : AllSmall (row_items words)
  rows_all_small = items_small (item_row_count words) 0

-- ---- a second signature

-- What is written from lent rows, read under a second signature, is refused with 6 exactly when the two signatures, none being 0, differ.
module _ (items entries s : List ℕ) (checked : Bool) (word : (i : ℕ) → get_or items i 0 < 2 ^ 64) (store : Bytes s) (signature b : ℕ) (key : signature < 2 ^ 32)
    {out : List ℕ} {n : ℕ} {later : List ℕ} where
  pub rows_second_signature : (at : ℕ)
      → MeasuredWritten (measure_rows s checked items entries) (rows_bytes s items entries signature) out at (Ok n) later
      → (read_body (take n (drop at later)) b ≡ rejected ChecksumWrong 0) ↔ (signature ≡ b → ⊥)
  rows_second_signature at w =
      body_under_another s checked (row_items items) (entry_lengths entries) (rows_all_small items word) store signature b key
      (rows_own s checked items entries) at w

  pub batch_rows_second_signature : {count : ℕ} {content : List ℕ} → (n ≡ 0 → ⊥) → Bytes content
      → BatchWritten (measure_rows s checked items entries) count content (rows_bytes s items entries signature) out (Ok n) later
      → (read_batch later b ≡ empty_table (Some (refusal_of ChecksumWrong 0))) ↔ (signature ≡ b → ⊥)
  batch_rows_second_signature h bytes w =
      batch_under_another s checked (row_items items) (entry_lengths entries) (rows_all_small items word) store signature b key
      (rows_own s checked items entries) h bytes w
