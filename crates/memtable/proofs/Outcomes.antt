-- The two outcomes of a rewrite: the table is kept, or the run is replaced. And the rows afterwards, around the run.
-- Assumes nothing.
use mathlib.Core.Path.{◌≡◌, refl}
use Prim.Native.Nat.{ℕ, ◌+◌, ◌≤◌}
use native.Mathlib.Nat.{pos_of_ne-zero}
use native.Mathlib.Omega.{arith}
use mathlib.Core.Bool.{Bool, true, false, not, cond}
use mathlib.Core.List.{List}
use lib.Dec.{leb, eqb}
use lib.ListN.{length, drop, length-drop}
use lib.Seq.{paste}
use borrow.Author.Tests.{not-true, eqb-false, leb-true}
use Rattle.std.specs.Prelude.{Option, Result}
use Rattle.refusal.specs.declared.Reason.{Reason}
use Rattle.pipe_log.specs.declared.Location.{Location}
use Rattle.location_rules.specs.declared.Table.{Table}
use Rattle.location_rules.specs.declared.Rewritten.{Rewritten}
use Rattle.memtable.specs.Table.{well_formed, ready}
use Rattle.location_rules.specs.Decisions.{early, count_after, unchanged, outcome, answered}
use Rattle.location_rules.specs.Row.{stop_of}
use Rattle.memtable.specs.Rewriting.{start_place, start_from, overlap_length, run_length, outcome_of, rewrite_of, rows_after}
use Rattle.memtable.proofs.RunLaws.{run_take_le}

pub data Outcome (good isReady : Bool) (t : Table) (place overlap run : ℕ) (gate : Option ℕ) : Rewritten → Type 0 where
  kept : Outcome good isReady t place overlap run gate (unchanged t.count)
  done : good ≡ true → isReady ≡ true → (overlap ≡ 0 → ⊥) → place ≤ t.count → early gate place t.count ≡ false
      → Outcome good isReady t place overlap run gate (record { replaced = run; count = count_after gate (place + run) t.count })

module _ (good isReady : Bool) (t : Table) (place overlap run : ℕ) (gate : Option ℕ) where
  abbrev Is : Result Rewritten Reason → Type 0
  Is answer = Outcome good isReady t place overlap run gate (outcome answer t.count)

  choose : (b : Bool) (x y : Result Rewritten Reason) → Is x → (b ≡ true → Is y) → Is (cond b y x)
  choose true x y p q = q refl
  choose false x y p q = p

  pub outcome_is : Is (answered good isReady t place overlap run gate)
  unfolding answered
  outcome_is =
      choose good _ _ kept (λ g. choose isReady _ _ kept (λ r. choose (not (eqb overlap 0)) _ _ kept (λ o. choose (leb place t.count) _ _ kept (λ p. choose (not (early gate place t.count)) _ _ kept
      (λ e. done g r (eqb-false overlap 0 (not-true _ o)) (leb-true place t.count p) (not-true _ e))))))

module _ (rows : List Location) (t : Table) (incoming : List Location) (first : ℕ) (gate : Option ℕ) where
  abbrev pub place : ℕ
  place = start_place t first

  abbrev pub source : List Location
  source = drop (start_from t first) incoming

  abbrev pub overlap : ℕ
  overlap = overlap_length rows t incoming first

  abbrev pub run : ℕ
  run = run_length rows t incoming first gate

  -- an outcome of this rewrite
  abbrev pub Outcomes : Rewritten → Type 0
  Outcomes = Outcome (well_formed rows t) (ready incoming first) t place overlap run gate

  pub outcomes : Outcomes (outcome_of rows t incoming first gate)
  unfolding rewrite_of
  outcomes = outcome_is (well_formed rows t) (ready incoming first) t place overlap run gate

  pub after_is : rows_after rows t incoming first gate ≡ paste rows place source (outcome_of rows t incoming first gate).replaced
  unfolding rows_after
  after_is = refl

  -- the run lies in the rows and in the incoming ones
  pub run_in_rows : (overlap ≡ 0 → ⊥) → place + run ≤ length rows
  run_in_rows some = omega (arith, pos_of_ne-zero some, run_take_le (stop_of gate) overlap (drop place rows))

  pub run_in_source : run ≤ length source
  run_in_source = omega (arith, run_take_le (stop_of gate) overlap (drop place rows), length-drop (start_from t first) incoming)
