-- A fetched run, and the rewrite of exactly that run.
-- Assumes nothing.
use mathlib.Core.Path.{◌≡◌, refl, sym, ap, ◌∙◌}
use Prim.Native.Nat.{ℕ, ◌+◌, ◌-◌, ◌≤◌, min}
use native.Mathlib.Nat.{le-add_right, add-sub_cancel_left, sub-eq-zero_of_le}
use native.Mathlib.Omega.{arith}
use mathlib.Core.Bool.{Bool, true, false}
use mathlib.Core.List.{List}
use lib.Dec.{eqb}
use lib.ListN.{length, drop, length-drop}
use borrow.Author.Tests.{le-ltb, le-leb, eq-eqb, ne_eqb, eqb-true, eqb-false}
use Rattle.std.specs.List.{list_all}
use Rattle.pipe_log.specs.declared.Location.{Location}
use Rattle.location_rules.specs.declared.Table.{Table}
use Rattle.std.specs.Prelude.{Option, Some, Result, Ok}
use Rattle.refusal.specs.declared.Reason.{Reason}
use Rattle.location_rules.specs.declared.Stop.{Stop}
use Rattle.location_rules.specs.declared.Rewritten.{Rewritten}
use Rattle.location_rules.specs.declared.Fetched.{Fetched}
use Rattle.location_rules.specs.Row.{in_rewrite}
use Rattle.memtable.specs.Rows.{run_of}
use Rattle.memtable.specs.Table.{well_formed, ready}
use Rattle.location_rules.specs.Decisions.{unchanged, answered, found, fetched}
use Rattle.memtable.specs.Rewriting.{start_place, start_from, overlap_length, run_length, rewrite_of}
use Rattle.memtable.specs.Fetching.{fetch_of, fetched_run}
use Rattle.memtable.proofs.RunLaws.{run_le, run_whole}
use Rattle.memtable.proofs.Surveys.{formed_count}
use Rattle.memtable.proofs.Tables.{formed_parts, ready_of}

module _ (rows : List Location) (t : Table) (gate : ℕ) (formed : well_formed rows t ≡ true) where
  pub fetched_is : fetch_of rows t gate ≡ Ok (record { place = t.count; len = run_of (Stop.Above gate) (drop t.count rows) })
  unfolding fetched fetch_of
  fetched_is = rw formed refl

  pub fetched_formed : ((fetched_run rows t gate).place ≡ t.count) × ((fetched_run rows t gate).len ≡ run_of (Stop.Above gate) (drop t.count rows))
  fetched_formed = (ap (λ (f : Result Fetched Reason). (found f).place) fetched_is, ap (λ (f : Result Fetched Reason). (found f).len) fetched_is)

-- every check passes, at a place that is the count
passed : (good isReady : Bool) (t : Table) (p o k gate : ℕ) → good ≡ true → isReady ≡ true → (o ≡ 0 → ⊥) → p ≡ t.count → answered good isReady t p o k (Some gate) ≡ Ok (record { replaced = k; count = t.count + k })
unfolding answered
passed good isReady t p o k gate g r some e = rw (g, r, ne_eqb o 0 some, e, le-leb t.count t.count (omega arith), le-ltb t.count t.count (omega arith)) refl

-- nothing overlaps
none : (good isReady : Bool) (t : Table) (p o k : ℕ) (gate : Option ℕ) → good ≡ true → isReady ≡ true → o ≡ 0 → answered good isReady t p o k gate ≡ Ok (unchanged t.count)
unfolding answered
none good isReady t p o k gate g r e = rw (g, r, eq-eqb o 0 e) refl

module _ (rows : List Location) (t : Table) (gate : ℕ) (incoming : List Location) (formed : well_formed rows t ≡ true) (new : list_all in_rewrite incoming ≡ true) (exact : length incoming ≡ run_of (Stop.Above gate) (drop t.count rows)) where
  abbrev long : ℕ
  long = run_of (Stop.Above gate) (drop t.count rows)

  abbrev at : ℕ
  at = t.first + t.count

  at_count : start_place t at ≡ t.count
  at_count = add-sub_cancel_left t.first t.count

  from_0 : start_from t at ≡ 0
  from_0 = sub-eq-zero_of_le (le-add_right t.first t.count)

  fits : t.count + long ≤ length rows
  fits = omega (arith, run_le (Stop.Above gate) (drop t.count rows), length-drop t.count rows, formed_count rows t formed)

  overlap_is : overlap_length rows t incoming at ≡ long
  overlap_is = rw (at_count, from_0, exact) (all_in (length rows) t.count long fits)
    where
      all_in : (n c k : ℕ) → c + k ≤ n → min (n - c) (k - 0) ≡ k
      all_in n c k l = omega arith

  run_is : run_length rows t incoming at (Some gate) ≡ long
  run_is = rw (overlap_is, at_count) (run_whole (Stop.Above gate) (drop t.count rows))

  is_ready : ready incoming at ≡ true
  is_ready = ready_of incoming at new (omega (arith, exact, fits, (formed_parts rows t formed).1.1))

  pub whole_run : rewrite_of rows t incoming at (Some gate) ≡ Ok (record { replaced = long; count = t.count + long })
  unfolding rewrite_of
  whole_run = told (eqb long 0) refl
    where
      answer : ℕ → Result Rewritten Reason
      answer k = Ok (record { replaced = k; count = t.count + k })

      told : (b : Bool) → eqb long 0 ≡ b → answered (well_formed rows t) (ready incoming at) t (start_place t at) (overlap_length rows t incoming at) (run_length rows t incoming at (Some gate)) (Some gate) ≡ Ok (record { replaced = long; count = t.count + long })
      told true e = none (well_formed rows t) (ready incoming at) t (start_place t at) (overlap_length rows t incoming at) (run_length rows t incoming at (Some gate)) (Some gate) formed is_ready (overlap_is ∙ eqb-true long 0 e) ∙ same long (eqb-true long 0 e)
        where
          same : (k : ℕ) → k ≡ 0 → ◌≡◌ {A = Result Rewritten Reason} (Ok (unchanged t.count)) (Ok (record { replaced = k; count = t.count + k }))
          same k z = let whole : t.count ≡ t.count + k = omega (arith, z) in cc
      told false e = passed (well_formed rows t) (ready incoming at) t (start_place t at) (overlap_length rows t incoming at) (run_length rows t incoming at (Some gate)) gate formed is_ready (λ z. eqb-false long 0 e (sym overlap_is ∙ z)) at_count ∙ ap answer run_is
