-- What a rewrite puts together: the run lies in both lists, and the numbers are those of the definition.
-- Assumes nothing.
use mathlib.Core.Path.{◌≡◌, refl, sym, ap, ◌∙◌}
use Prim.Native.Nat.{ℕ, ◌+◌, ◌-◌, ◌≤◌}
use native.Mathlib.Nat.{le_refl, add-sub_cancel_left}
use native.Mathlib.Omega.{arith}
use mathlib.Core.Bool.{Bool, true, false, ◌&&◌}
use mathlib.Core.List.{List}
use lib.Dec.{eqb}
use lib.ListN.{length, take, drop}
use borrow.Author.Tests.{le-leb, eq-eqb, ne_eqb, eqb-true, eqb-false}
use Rattle.std.specs.Prelude.{Option, Result, Ok, nat_le, if◌then◌else◌}
use Rattle.refusal.specs.declared.Reason.{Reason}
use Rattle.pipe_log.specs.declared.Location.{Location}
use Rattle.location_rules.specs.declared.Table.{Table}
use Rattle.location_rules.specs.declared.Stop.{Stop}
use Rattle.location_rules.specs.declared.Overlap.{Overlap}
use Rattle.location_rules.specs.declared.Rewritten.{Rewritten}
use Rattle.memtable.specs.Rows.{run_of}
use Rattle.memtable.specs.Table.{well_formed, ready}
use Rattle.location_rules.specs.Decisions.{outcome, answered}
use Rattle.location_rules.specs.Row.{stop_of}
use Rattle.memtable.specs.Rewriting.{start_place, start_from, overlap_length, run_length, rewrite_in}
use Rattle.location_rules.specs.Overlaps.{overlap_at, overlap_of}
use Rattle.location_rules.proofs.Overlaps.{over_rows, over_incoming}
use Rattle.memtable.proofs.RunLaws.{run_take_le}
use Rattle.memtable.proofs.Outcomes.{Outcome, kept, done, outcome_is}

-- no more rows are replaced than the run has
pub replaced_le : (good isReady : Bool) (t : Table) (place overlap run : ℕ) (gate : Option ℕ) → (outcome (answered good isReady t place overlap run gate) t.count).replaced ≤ run
replaced_le good isReady t place overlap run gate = told _ (outcome_is good isReady t place overlap run gate)
  where
    told : (r : Rewritten) → Outcome good isReady t place overlap run gate r → r.replaced ≤ run
    told _ kept = omega arith
    told _ (done g h o l e) = le_refl run

-- where nothing overlaps, the place and the run count for nothing
none_answered : (c z : Bool) (t : Table) (a b k l o o' : ℕ) (gate : Option ℕ) → o ≡ 0 → o' ≡ 0 → answered c z t a o k gate ≡ answered c z t b o' l gate
unfolding answered
none_answered c z t a b k l o o' gate e f = rw (eq-eqb o 0 e, eq-eqb o' 0 f) refl

none_replaced : (c z : Bool) (t : Table) (a k o : ℕ) (gate : Option ℕ) → o ≡ 0 → (outcome (answered c z t a o k gate) t.count).replaced ≡ 0
none_replaced c z t a k o gate e = omega (arith, ap (λ (w : Result Rewritten Reason). (outcome w t.count).replaced) (none_answered c z t a a k 0 o 0 gate e refl), replaced_le c z t a 0 0 gate)

module _ (xs : List Location) (t : Table) (ys : List Location) (first n m : ℕ) (rows_long : n ≡ length xs) (incoming_long : m ≡ length ys) (p : Overlap) (over : p ≡ overlap_of (first - t.first) (t.first - first) n m) where
  -- the overlap lies in the rows
  pub over_fits : (p.start ≤ p.end) × (p.end ≤ length xs)
  over_fits = let h = over_rows _ _ n m p over in (h.0, omega (arith, h.1, rows_long))

  module _ (s : Stop) (e : ℕ) (ran : e ≡ p.start + run_of s (take (p.end - p.start) (drop p.start xs))) (good taken : Bool) (gate : Option ℕ) (d : Result Rewritten Reason)
      (decided : d ≡ answered good taken t p.start (p.end - p.start) (e - p.start) gate) where
    -- what is replaced lies in the rows and in the incoming ones
    pub run_fits : (a : Rewritten) → d ≡ Ok a → (p.start + a.replaced ≤ length xs) × (p.from + a.replaced ≤ length ys)
    run_fits a is = (omega (arith, small, over_fits.0, over_fits.1), omega (arith, small, over_incoming _ _ n m p over, incoming_long))
      where
        small : a.replaced ≤ p.end - p.start
        small = omega (arith, ap (λ (r : Result Rewritten Reason). (outcome r t.count).replaced) (sym is ∙ decided), replaced_le good taken t p.start (p.end - p.start) (e - p.start) gate, ran, run_take_le s (p.end - p.start) (drop p.start xs))

    module _ (w v : Bool) (formed : good ≡ (w && well_formed xs t)) (is_ready : taken ≡ (v && ready ys first)) (stop : s ≡ stop_of gate) where
      abbrev place : ℕ
      place = start_place t first

      abbrev from : ℕ
      from = start_from t first

      abbrev len : ℕ
      len = overlap_length xs t ys first

      abbrev runs : ℕ
      runs = run_length xs t ys first gate

      is_at : p ≡ overlap_at place from len
      unfolding overlap_of
      is_at = rw (rows_long, incoming_long) at over

      -- nothing overlaps
      module _ (none : len ≡ 0) where
        nowhere : overlap_at place from len ≡ record { start = 0; end = 0; from = 0 }
        nowhere = rw (eq-eqb len 0 none) refl

        no_rows : p.end - p.start ≡ 0
        no_rows = ap (λ (q : Overlap). q.end - q.start) (is_at ∙ nowhere)

        d_none : d ≡ answered (w && well_formed xs t) (v && ready ys first) t place len runs gate
        d_none = decided ∙ none_answered good taken t p.start place (e - p.start) runs (p.end - p.start) len gate no_rows none ∙ (rw (formed, is_ready) refl)

        k_none : (outcome d t.count).replaced ≡ 0
        k_none = ap (λ (r : Result Rewritten Reason). (outcome r t.count).replaced) d_none ∙ none_replaced (w && well_formed xs t) (v && ready ys first) t place runs len gate none

      -- something does
      module _ (some : len ≡ 0 → ⊥) where
        lies : p ≡ record { start = place; end = place + len; from = from }
        lies = is_at ∙ (rw (ne_eqb len 0 some) refl)

        at_start : p.start ≡ place
        at_start = ap (λ (q : Overlap). q.start) lies

        at_from : p.from ≡ from
        at_from = ap (λ (q : Overlap). q.from) lies

        so_long : p.end - p.start ≡ len
        so_long = ap (λ (q : Overlap). q.end - q.start) lies ∙ add-sub_cancel_left place len

        all_run : e - p.start ≡ runs
        all_run = ap (λ (k : ℕ). k - p.start) ran ∙ add-sub_cancel_left p.start _ ∙ (rw (stop, so_long, at_start) refl)

        d_some : d ≡ answered (w && well_formed xs t) (v && ready ys first) t place len runs gate
        d_some = decided ∙ (rw (all_run, so_long, at_start, formed, is_ready) refl)

      pub answer_is : (answer : Result Rewritten Reason) → answer ≡ d → answer ≡ rewrite_in w xs t v ys first gate
      unfolding rewrite_in
      answer_is answer same = same ∙ told (eqb len 0) refl
        where
          told : (b : Bool) → eqb len 0 ≡ b → d ≡ answered (w && well_formed xs t) (v && ready ys first) t place len runs gate
          told true h = d_none (eqb-true len 0 h)
          told false h = d_some (eqb-false len 0 h)

      -- rows are put from the place on where the definition puts them
      pub put_is : {A : Type 0} (put : List A → ℕ → List A → ℕ → ℕ → List A) → ((rows incoming : List A) (start from : ℕ) → rows ≡ put rows start incoming from 0) → (cells incoming : List A) (a : Rewritten) → d ≡ Ok a
          → put cells p.start incoming p.from a.replaced ≡ put cells place incoming from a.replaced
      put_is put none cells incoming a is = told (eqb len 0) refl
        where
          replaced : (outcome d t.count).replaced ≡ a.replaced
          replaced = ap (λ (r : Result Rewritten Reason). (outcome r t.count).replaced) is

          told : (b : Bool) → eqb len 0 ≡ b → put cells p.start incoming p.from a.replaced ≡ put cells place incoming from a.replaced
          told true h = rw (sym replaced ∙ k_none (eqb-true len 0 h)) (sym (none cells incoming p.start p.from) ∙ none cells incoming place from)
          told false h = rw (at_start (eqb-false len 0 h), at_from (eqb-false len 0 h)) refl

      -- the same behind the test that they lie in both lists, which holds
      pub rows_put : {A : Type 0} (put : List A → ℕ → List A → ℕ → ℕ → List A) → ((rows incoming : List A) (start from : ℕ) → rows ≡ put rows start incoming from 0) → (cells incoming : List A) (a : Rewritten) → d ≡ Ok a
          → (if nat_le (p.start + a.replaced) (length xs) && nat_le (p.from + a.replaced) (length ys) then put cells p.start incoming p.from a.replaced else cells) ≡ put cells place incoming from a.replaced
      rows_put put none cells incoming a is = let fits = run_fits a is in rw (le-leb _ _ fits.0, le-leb _ _ fits.1) (put_is put none cells incoming a is)
