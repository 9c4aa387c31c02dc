-- A run ends where the first row that stops it stands, or where the rows end.
-- Assumes nothing.
use mathlib.Core.Path.{◌≡◌, refl, ap, ◌∙◌}
use Prim.Native.Nat.{ℕ, ◌+◌, ◌-◌, ◌<◌, min}
use native.Mathlib.Omega.{arith}
use mathlib.Core.Bool.{true, false}
use mathlib.Core.List.{List, ◌∷◌}
use lib.ListN.{length, take, drop, length-drop}
use Rattle.std.specs.Prelude.{Option, unwrap_or}
use Rattle.std.specs.Option.{MatchOption}
use Rattle.std.specs.List.{AllWithin, HoldsAt}
use Rattle.std.proofs.lemmas.Iterator.{index_from_first}
use Rattle.std.proofs.lemmas.List.{take_min}
use Rattle.pipe_log.specs.declared.Location.{Location}
use Rattle.location_rules.specs.declared.Stop.{Stop}
use Rattle.location_rules.specs.Row.{stops_at}
use Rattle.memtable.specs.Rows.{run_of}

module _ (s : Stop) where
  abbrev pub Stops : Location → Type 0
  Stops row = stops_at s row ≡ true

  abbrev pub Passes : Location → Type 0
  Passes row = stops_at s row ≡ false

  passed : (row : Location) (rows : List Location) → Passes row → run_of s (row ∷ rows) ≡ run_of s rows + 1
  passed row rows e = rw e (omega arith)

  pub run_place : (rows : List Location) (r : Option ℕ) → MatchOption r (AllWithin Passes rows 0 (length rows)) (λ i. (i < length rows) × HoldsAt Stops rows i × AllWithin Passes rows 0 i) → run_of s rows ≡ unwrap_or r (length rows)
  run_place rows r h = index_from_first (run_of s) Stops Passes refl (λ row rows e. rw e refl) passed rows r h

  -- the run before hi is the one before the end of the rows, where that comes first
  pub run_before : (rows : List Location) (lo hi end : ℕ) → end ≡ min hi (length rows) → run_of s (take (end - lo) (drop lo rows)) ≡ run_of s (take (hi - lo) (drop lo rows))
  run_before rows lo hi end e = ap (λ (k : ℕ). run_of s (take k (drop lo rows))) cut ∙ ap (run_of s) (take_min (hi - lo) (drop lo rows))
    where
      cut : end - lo ≡ min (hi - lo) (length (drop lo rows))
      cut = omega (arith, e, length-drop lo rows)
