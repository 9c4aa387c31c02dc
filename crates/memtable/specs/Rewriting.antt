-- What a rewrite of locations answers, and the rows afterwards.
-- Assumes nothing.
use Rattle.std.specs.Prelude.{ℕ, ◌-◌, ◌≡◌, Bool, ◌&&◌, Option, Result, List, length, take, drop}
use Rattle.std.proofs.Math.Seq.{paste}
use Rattle.refusal.specs.declared.Reason.{Reason}
use Rattle.pipe_log.specs.declared.Location.{Location}
use Rattle.location_rules.specs.declared.Table.{Table}
use Rattle.location_rules.specs.declared.Rewritten.{Rewritten}
use Rattle.location_rules.specs.Overlaps.{overlap_rows}
use Rattle.location_rules.specs.Decisions.{outcome, answered}
use Rattle.location_rules.specs.Row.{stop_of}
use Rattle.memtable.specs.Rows.{run_of}
use Rattle.memtable.specs.Table.{well_formed, ready}

-- where the overlap starts: its row in the table, and its incoming row (a difference below 0 is 0)
abbrev pub start_place : Table → ℕ → ℕ
start_place t first = first - t.first

abbrev pub start_from : Table → ℕ → ℕ
start_from t first = t.first - first

-- how many rows the overlap has: 0 where there is none, or nothing incoming
abbrev pub overlap_length : List Location → Table → List Location → ℕ → ℕ
overlap_length rows t incoming first = overlap_rows (start_place t first) (start_from t first) (length rows) (length incoming)

-- the rows of the overlap from its start until its end or the first stop
abbrev pub run_length : List Location → Table → List Location → ℕ → Option ℕ → ℕ
run_length rows t incoming first gate = run_of (stop_of gate) (take (overlap_length rows t incoming first) (drop (start_place t first) rows))

unfoldable pub rewrite_of : List Location → Table → List Location → ℕ → Option ℕ → Result Rewritten Reason
rewrite_of rows t incoming first gate =
    answered (well_formed rows t) (ready incoming first) t (start_place t first) (overlap_length rows t incoming first) (run_length rows t incoming first gate) gate

-- the same of rows of which one may be no location's: one of the table's is a 26, an incoming one a 27
unfoldable pub rewrite_in : Bool → List Location → Table → Bool → List Location → ℕ → Option ℕ → Result Rewritten Reason
rewrite_in isWhole rows t areWhole incoming first gate =
    answered (isWhole && well_formed rows t) (areWhole && ready incoming first) t (start_place t first) (overlap_length rows t incoming first) (run_length rows t incoming first gate) gate

-- how many rows are replaced, and the count afterwards
abbrev pub outcome_of : List Location → Table → List Location → ℕ → Option ℕ → Rewritten
outcome_of rows t incoming first gate = outcome (rewrite_of rows t incoming first gate) t.count

-- the rows afterwards: the replaced ones are those incoming at the same indexes
unfoldable pub rows_after : List Location → Table → List Location → ℕ → Option ℕ → List Location
rows_after rows t incoming first gate = paste rows (start_place t first) (drop (start_from t first) incoming) (outcome_of rows t incoming first gate).replaced

-- the table with its new count
abbrev pub new_table : List Location → Table → List Location → ℕ → Option ℕ → Table
new_table rows t incoming first gate = record { first = t.first; count = (outcome_of rows t incoming first gate).count }

-- what the contract of `rewrite` says of its arguments, its answer and the rows at exit
abbrev pub Rewrote : List Location → Table → List Location → ℕ → Option ℕ → Result Rewritten Reason → List Location → Type 0
Rewrote rows t incoming first gate answer after = (answer ≡ rewrite_of rows t incoming first gate) × (after ≡ rows_after rows t incoming first gate)
