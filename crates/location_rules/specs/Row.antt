-- One row: which queue it is in, and whether it ends a run.
-- Assumes nothing.
use Rattle.std.specs.Prelude.{ℕ, Bool, true, false, Option, None, Some, ltb}
use Rattle.pipe_log.specs.declared.Location.{Location}
use Rattle.pipe_log.specs.declared.LogQueue.{LogQueue}
use Rattle.location_rules.specs.declared.Stop.{Stop}

abbrev pub is_append : LogQueue → Bool
is_append LogQueue.Append = true
is_append LogQueue.Rewrite = false

abbrev pub is_rewrite : LogQueue → Bool
is_rewrite LogQueue.Append = false
is_rewrite LogQueue.Rewrite = true

abbrev pub in_append : Location → Bool
in_append row = is_append row.queue

abbrev pub in_rewrite : Location → Bool
in_rewrite row = is_rewrite row.queue

-- whether a row ends the run
abbrev pub stops_at : Stop → Location → Bool
stops_at Stop.Append row = in_append row
stops_at Stop.Rewrite row = in_rewrite row
stops_at (Stop.Above gate) row = ltb gate row.seq

-- with a gate a stop is a row whose file number exceeds the gate; without one, a row in the append queue
abbrev pub stop_of : Option ℕ → Stop
stop_of None = Stop.Append
stop_of (Some gate) = Stop.Above gate

-- a row as far as a stop looks at it
abbrev pub row_start : LogQueue → ℕ → Location
row_start queue seq = record { queue = queue; seq = seq; offset = 0; len = 0; entry_offset = 0; entry_len = 0 }
