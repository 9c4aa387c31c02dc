-- What the fetch before a gate answers.
-- Assumes nothing.
use Rattle.std.specs.Prelude.{ℕ, ◌+◌, Bool, ◌&&◌, Result, List, drop}
use Rattle.refusal.specs.declared.Reason.{Reason}
use Rattle.pipe_log.specs.declared.Location.{Location}
use Rattle.location_rules.specs.declared.Table.{Table}
use Rattle.location_rules.specs.declared.Stop.{Stop}
use Rattle.location_rules.specs.declared.Fetched.{Fetched}
use Rattle.location_rules.specs.Decisions.{found, fetched}
use Rattle.memtable.specs.Rows.{run_of}
use Rattle.memtable.specs.Table.{well_formed}

-- the longest run of rows starting at the rewritten count with file number at most the gate
unfoldable pub fetch_of : List Location → Table → ℕ → Result Fetched Reason
fetch_of rows t gate = fetched (well_formed rows t) t (run_of (Stop.Above gate) (drop t.count rows))

-- the same of rows of which one may be no location's, which is a 26
unfoldable pub fetch_in : Bool → List Location → Table → ℕ → Result Fetched Reason
fetch_in isWhole rows t gate = fetched (isWhole && well_formed rows t) t (run_of (Stop.Above gate) (drop t.count rows))

-- the run of a fetch
abbrev pub fetched_run : List Location → Table → ℕ → Fetched
fetched_run rows t gate = found (fetch_of rows t gate)

-- the index at which it starts
abbrev pub fetched_at : List Location → Table → ℕ → ℕ
fetched_at rows t gate = t.first + (fetched_run rows t gate).place
