-- What looks at no list of rows, only at how many there are and where the first of a wrong queue stands: indexes that fit, a table well formed, incoming rows taken.
-- Assumes nothing.
use Rattle.std.specs.Prelude.{ℕ, ◌+◌, Bool, ◌&&◌, leb}
use Rattle.location_rules.specs.declared.Table.{Table}

-- the last of n indexes from first on is at most 2^64 - 1. An index is below 2^64, so that no rows always fit.
abbrev pub indexes_fit : ℕ → ℕ → Bool
indexes_fit first n = leb (first + n) 18446744073709551616

-- a table of n rows: front is where the first append row before the count stands (the count where there is none), back where the first rewrite row at the count or after it stands (n where there is none)
unfoldable pub well_formed_by : Table → ℕ → ℕ → ℕ → Bool
well_formed_by t n front back = leb t.count n && (leb t.count front && (leb n back && indexes_fit t.first n))

-- n incoming rows, of which the first that is not in the rewrite queue stands at wrong
unfoldable pub ready_by : ℕ → ℕ → ℕ → Bool
ready_by wrong n first = leb n wrong && indexes_fit first n
