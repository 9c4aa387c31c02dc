-- When a table of locations is well formed, and when incoming rows are taken.
-- Assumes nothing.
use Rattle.std.specs.Prelude.{ℕ, Bool, ◌&&◌, List, leb, length, take, drop}
use Rattle.std.specs.List.{list_all}
use Rattle.pipe_log.specs.declared.Location.{Location}
use Rattle.location_rules.specs.declared.Table.{Table}
use Rattle.location_rules.specs.Row.{in_append, in_rewrite}
use Rattle.location_rules.specs.Parts.{indexes_fit}

-- count at most the number of rows, rows before it in the rewrite queue, the others in the append queue, last index at most 2^64 - 1
unfoldable pub well_formed : List Location → Table → Bool
well_formed rows t = leb t.count (length rows) && (list_all in_rewrite (take t.count rows) && (list_all in_append (drop t.count rows) && indexes_fit t.first (length rows)))

-- incoming rows are in the rewrite queue, and their indexes at most 2^64 - 1
unfoldable pub ready : List Location → ℕ → Bool
ready incoming first = list_all in_rewrite incoming && indexes_fit first (length incoming)
