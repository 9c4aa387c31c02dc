-- The overlap of a table's rows and incoming ones.
-- Assumes nothing.
use Rattle.std.specs.Prelude.{ℕ, ◌+◌, ◌-◌, min, cond, eqb}
use Rattle.location_rules.specs.declared.Overlap.{Overlap}

-- the overlap of len rows from this row and that incoming row on
abbrev pub overlap_at : ℕ → ℕ → ℕ → Overlap
overlap_at place from len = cond (eqb len 0) (record { start = 0; end = 0; from = 0 }) (record { start = place; end = place + len; from = from })

-- how many rows overlap, of n from this row on and m incoming ones from that row on: as many as the shorter of what is left
abbrev pub overlap_rows : ℕ → ℕ → ℕ → ℕ → ℕ
overlap_rows place from n m = min (n - place) (m - from)

unfoldable pub overlap_of : ℕ → ℕ → ℕ → ℕ → Overlap
overlap_of place from n m = overlap_at place from (overlap_rows place from n m)
