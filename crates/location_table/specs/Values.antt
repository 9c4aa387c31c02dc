-- Tables of at most 64 locations by value: memtable's definitions, of the rows that are used.
-- Assumes nothing.
use Rattle.std.specs.Prelude.{ℕ, Bool, ◌&&◌, Option, Result, Err, ◌++◌, leb, take, drop}
use Rattle.refusal.specs.First.{◌else◌, ◌>>◌}
use Rattle.refusal.specs.declared.Reason.{Reason}
use Rattle.refusal.specs.declared.Reason.TheVariants.{OutputShort}
use Rattle.location_rules.specs.declared.Table.{Table}
use Rattle.location_rules.specs.declared.Rewritten.{Rewritten}
use Rattle.location_rules.specs.declared.Fetched.{Fetched}
use Rattle.memtable.specs.Rewriting.{rewrite_of, rows_after}
use Rattle.memtable.specs.Fetching.{fetch_of}
use Rattle.location_table.specs.declared.Rows.{Rows}

-- neither has more than 64 rows
abbrev pub in_reach : ℕ → ℕ → Bool
in_reach n m = leb n 64 && leb m 64

-- more than 64 rows: 21
unfoldable pub rewrite_value : Rows → Table → Rows → ℕ → Option ℕ → Result Rewritten Reason
rewrite_value rows t incoming first gate = do
  in_reach rows.len incoming.len else Err OutputShort
  rewrite_of (take rows.len rows.all) t (take incoming.len incoming.all) first gate

-- the rows used are those after the rewrite, and the others as they were
unfoldable pub rows_value : Rows → Table → Rows → ℕ → Option ℕ → Rows
rows_value rows t incoming first gate = do
  in_reach rows.len incoming.len else rows
  record { all = rows_after (take rows.len rows.all) t (take incoming.len incoming.all) first gate ++ drop rows.len rows.all; len = rows.len }

unfoldable pub fetch_value : Rows → Table → ℕ → Result Fetched Reason
fetch_value rows t gate = do
  in_reach rows.len 0 else Err OutputShort
  fetch_of (take rows.len rows.all) t gate
