-- The measure of lent rows, where they are not refused, is that of the items that they are, so that their bytes are as long.
-- Assumes nothing.
use Prim.Native.Nat.{ℕ}
use mathlib.Core.Path.{◌≡◌, sym}
use mathlib.Core.Bool.{Bool}
use mathlib.Core.List.{List}
use Rattle.std.specs.Prelude.{Ok}
use Rattle.list_writer.specs.declared.Measured.{Measured}
use Rattle.list_writer.specs.Answers.{measure_of}
use Rattle.rows_writer.specs.Rows.{row_items, entry_lengths, measure_rows, rows_bytes}
use Rattle.rows_writer.proofs.RowItems.{rows_accepted}
use Rattle.log_batch.proofs.Written.{Sized, own_sized}

module _ (s : List ℕ) (checked : Bool) (items entries : List ℕ) where
  pub rows_own : (m : Measured) → measure_rows s checked items entries ≡ Ok m → measure_of s checked (row_items items) (entry_lengths entries) ≡ Ok m
  rows_own m e = sym (rows_accepted s checked items entries (sym e)).1

  pub rows_sized : (signature : ℕ) → Sized (measure_rows s checked items entries) (rows_bytes s items entries signature)
  rows_sized signature = own_sized s checked (row_items items) (entry_lengths entries) signature rows_own
