-- The overlap of a table and incoming rows lies in both.
-- Assumes nothing.
use mathlib.Core.Path.{◌≡◌, refl}
use Prim.Native.Nat.{ℕ, ◌+◌, ◌-◌, ◌<◌, ◌≤◌}
use native.Mathlib.Omega.{arith}
use mathlib.Core.Bool.{Bool, true, false}
use native.Mathlib.Nat.{le_refl, pos_of_ne-zero}
use lib.Dec.{eqb}
use borrow.Author.Tests.{eqb-false}
use Rattle.location_rules.specs.declared.Overlap.{Overlap}
use Rattle.location_rules.specs.Overlaps.{overlap_at, overlap_rows, overlap_of}

lies : (t : Bool) (place from len n m : ℕ) → len ≤ n - place → len ≤ m - from → eqb len 0 ≡ t
    → (((overlap_at place from len).start ≤ (overlap_at place from len).end) × ((overlap_at place from len).end ≤ n)) × ((overlap_at place from len).from + ((overlap_at place from len).end - (overlap_at place from len).start) ≤ m)
lies true place from len n m l k e = rw e ((le_refl 0, omega arith), omega arith)
lies false place from len n m l k e = let some : 0 < len = pos_of_ne-zero (eqb-false len 0 e) in (rw e ((omega arith, omega (arith, l, some)), omega (arith, k, some)))

module _ (place from n m : ℕ) (p : Overlap) (e : p ≡ overlap_of place from n m) where
  within : ((p.start ≤ p.end) × (p.end ≤ n)) × (p.from + (p.end - p.start) ≤ m)
  unfolding overlap_of
  within = let len : ℕ = overlap_rows place from n m in (rw e (lies (eqb len 0) place from len n m (omega arith) (omega arith) refl))

  pub over_rows : (p.start ≤ p.end) × (p.end ≤ n)
  over_rows = within.0

  pub over_incoming : p.from + (p.end - p.start) ≤ m
  over_incoming = within.1
