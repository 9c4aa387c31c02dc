-- A table whose one row is at the last index, 2^64 - 1, and an incoming row.
-- Assumes nothing.
use Rattle.std.specs.Prelude.{List, [], ◌∷◌}
use Rattle.pipe_log.specs.declared.Location.{Location}
use Rattle.pipe_log.specs.declared.LogQueue.{LogQueue}
use Rattle.location_rules.specs.declared.Table.{Table}
use Rattle.location_rules.specs.Row.{row_start}

abbrev pub last : Table
last = record { first = 18446744073709551615; count = 0 }

abbrev pub appended : List Location
appended = row_start LogQueue.Append 1 ∷ []

abbrev pub incoming_row : List Location
incoming_row = row_start LogQueue.Rewrite 5 ∷ []
