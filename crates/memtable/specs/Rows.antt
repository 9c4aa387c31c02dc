-- How long a run of rows is.
-- Assumes nothing.
use Rattle.std.specs.Prelude.{ℕ, suc, cond, List, [], ◌∷◌}
use Rattle.pipe_log.specs.declared.Location.{Location}
use Rattle.location_rules.specs.declared.Stop.{Stop}
use Rattle.location_rules.specs.Row.{stops_at}

-- how many rows stand before the first that ends the run
abbrev pub run_of : Stop → List Location → ℕ
run_of stop [] = 0
run_of stop (row ∷ rows) = cond (stops_at stop row) 0 (suc (run_of stop rows))
