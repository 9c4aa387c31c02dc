-- What is promised of rewriting locations and of the fetch before a gate, in document 01's words.
-- Assumes nothing.
use mathlib.Core.Path.{◌≡◌, refl, sym, ap, ◌∙◌}
use Prim.Native.Nat.{ℕ, ◌+◌, ◌-◌, ◌<◌, ◌≤◌, ◌^◌}
use native.Mathlib.Nat.{add-zero, le_refl, add-sub_of_le, max-eq_right}
use native.Mathlib.Omega.{arith}
use mathlib.Core.Bool.{true}
use mathlib.Core.List.{List, [], ◌∷◌}
use lib.ListN.{length, take, drop}
use lib.Seq.{paste, paste-zero, length-paste, drop-paste, take-take, drop-drop}
use borrow.Author.Tests.{ltb-false}
use contract.Lifetimes.{Lfts}
use denote.Triple.Clauses.{AtExit}
use denote.Triple.Entry.{Args, Res}
use Rattle.std.specs.List.{list_all, count_by}
use Rattle.pipe_log.specs.declared.Location.{Location}
use Rattle.pipe_log.specs.declared.LogQueue.{LogQueue}
use Rattle.location_rules.specs.declared.Table.{Table}
use Rattle.std.specs.Prelude.{Option, None, Some, Result, Ok, Err}
use Rattle.refusal.specs.declared.Reason.{Reason}
use Rattle.refusal.specs.declared.Reason.TheVariants.{TableBroken, IncomingBroken}
use Rattle.location_rules.specs.declared.Stop.{Stop}
use Rattle.location_rules.specs.declared.Rewritten.{Rewritten}
use Rattle.location_rules.specs.declared.Fetched.{Fetched}
use Rattle.location_rules.specs.Row.{in_append, in_rewrite, row_start, stop_of}
use Rattle.memtable.specs.Rows.{run_of}
use Rattle.memtable.specs.Table.{well_formed, ready}
use Rattle.location_rules.specs.Decisions.{early, count_after, unchanged, outcome, answered, Kept, fetched}
use Rattle.memtable.specs.Rewriting.{start_place, start_from, rewrite_of, outcome_of, rows_after, new_table, Rewrote}
use Rattle.memtable.specs.Fetching.{fetch_of, fetched_run, fetched_at}
use Rattle.memtable.specs.Examples.{last, appended, incoming_row}
use Rattle.memtable.specs.contracts.rewrite as rw_fn
use Rattle.memtable.proofs.Queues.{all_take, all_drop}
use Rattle.memtable.proofs.RunLaws.{run_over}
use Rattle.memtable.proofs.Surveys.{formed_count}
use Rattle.memtable.proofs.Tables.{formed_parts, formed_of, ready_all, ready_fits, ready_of, run_short, rest_rewrite}
use Rattle.memtable.proofs.Fetches.{fetched_is, fetched_formed, whole_run}
use Rattle.memtable.proofs.Pasting.{before_same, rewrite_front, append_back, append_falls, rewrite_rises}
use Rattle.memtable.proofs.Outcomes.{kept, done, place, source, overlap, run, Outcomes, outcomes, after_is, run_in_rows, run_in_source}

-- An empty table is well formed for any first index when its count is 0.
pub empty_formed : (first : ℕ) → first < 2 ^ 64 → well_formed [] (record { first = first; count = 0 }) ≡ true
empty_formed first l = formed_of [] (record { first = first; count = 0 }) (omega arith) refl refl (omega (arith, l))

-- No incoming rows are never a 27.
pub none_ready : (first : ℕ) → first < 2 ^ 64 → ready [] first ≡ true
none_ready first l = ready_of [] first refl (omega (arith, l))

module _ (rows : List Location) (t : Table) (incoming : List Location) (first : ℕ) (gate : Option ℕ) where
  abbrev p : ℕ
  p = place rows t incoming first gate

  abbrev src : List Location
  src = source rows t incoming first gate

  -- a rewrite that replaces nothing leaves the rows
  same : rows ≡ paste rows p src 0
  same = paste-zero rows p src

  -- The overlap's start has one index in the table and in the incoming rows.
  pub same_index : t.first + start_place t first ≡ first + start_from t first
  same_index = omega arith

  -- "Total rows never change."
  pub total_kept : length (rows_after rows t incoming first gate) ≡ length rows
  total_kept = ap length (after_is rows t incoming first gate) ∙ told (outcome_of rows t incoming first gate) (outcomes rows t incoming first gate)
    where
      told : (r : Rewritten) → Outcomes rows t incoming first gate r → length (paste rows p src r.replaced) ≡ length rows
      told _ kept = ap length (sym same)
      told _ (done g h o l e) = length-paste rows p src (run rows t incoming first gate) (run_in_rows rows t incoming first gate o) (run_in_source rows t incoming first gate)

  -- "A refused one holds 0 and the old count", and lent memory is unchanged.
  pub refused_kept : (e : Reason) → rewrite_of rows t incoming first gate ≡ Err e → Kept rows t (outcome_of rows t incoming first gate) (rows_after rows t incoming first gate)
  refused_kept e z = let k : outcome_of rows t incoming first gate ≡ unchanged t.count = ap (λ (r : Result Rewritten Reason). outcome r t.count) z in (ap (λ (r : Rewritten). r.replaced) k, (ap (λ (r : Rewritten). r.count) k, after_is rows t incoming first gate ∙ ap (λ (r : Rewritten). paste rows p src r.replaced) k ∙ sym same))

  -- Rows outside the replaced run are as they were.
  pub rows_before_kept : take (start_place t first) (rows_after rows t incoming first gate) ≡ take (start_place t first) rows
  rows_before_kept = ap (take p) (after_is rows t incoming first gate) ∙ told (outcome_of rows t incoming first gate) (outcomes rows t incoming first gate)
    where
      told : (r : Rewritten) → Outcomes rows t incoming first gate r → take p (paste rows p src r.replaced) ≡ take p rows
      told _ kept = ap (take p) (sym same)
      told _ (done g h o l e) = before_same rows p src (run rows t incoming first gate) (run_in_rows rows t incoming first gate o) (run_in_source rows t incoming first gate)

  pub rows_behind_kept : drop (start_place t first + (outcome_of rows t incoming first gate).replaced) (rows_after rows t incoming first gate) ≡ drop (start_place t first + (outcome_of rows t incoming first gate).replaced) rows
  rows_behind_kept = ap (drop (p + (outcome_of rows t incoming first gate).replaced)) (after_is rows t incoming first gate) ∙ told (outcome_of rows t incoming first gate) (outcomes rows t incoming first gate)
    where
      told : (r : Rewritten) → Outcomes rows t incoming first gate r → drop (p + r.replaced) (paste rows p src r.replaced) ≡ drop (p + r.replaced) rows
      told _ kept = ap (drop (p + 0)) (sym same)
      told _ (done g h o l e) = drop-paste rows p src (run rows t incoming first gate) (omega (arith, run_in_rows rows t incoming first gate o)) (run_in_source rows t incoming first gate)

  -- A rewrite leaves a well-formed table well formed, with its new count.
  pub formed_stays : well_formed rows t ≡ true → well_formed (rows_after rows t incoming first gate) (new_table rows t incoming first gate) ≡ true
  formed_stays f = ap (λ (l : List Location). well_formed l (new_table rows t incoming first gate)) (after_is rows t incoming first gate) ∙ told (outcome_of rows t incoming first gate) (outcomes rows t incoming first gate)
    where
      parts : (list_all in_rewrite (take t.count rows) ≡ true) × ((list_all in_append (drop t.count rows) ≡ true) × (t.first + length rows ≤ 18446744073709551616))
      parts = formed_parts rows t f

      -- k rows replaced, of which the table's count takes in j more
      moved : (k j c : ℕ) → p + k ≤ length rows → k ≤ length src → list_all in_rewrite src ≡ true → p ≤ t.count → t.count ≤ p + k + j → p + k + j ≤ length rows → c ≡ p + k + j → list_all in_rewrite (take j (drop (p + k) rows)) ≡ true
          → well_formed (paste rows p src k) (record { first = t.first; count = c }) ≡ true
      moved k j c in_rows in_source new l up fits e old =
          ap (λ (n : ℕ). well_formed (paste rows p src k) (record { first = t.first; count = n })) e ∙
          formed_of (paste rows p src k) (record { first = t.first; count = p + k + j }) (omega (arith, long, fits))
          (rewrite_front rows p src k in_rows in_source j front (all_take in_rewrite k src new) old)
          (ap (list_all in_append) (append_back rows p src k in_rows in_source j) ∙ back) (omega (arith, long, parts.1.1))
        where
          long : length (paste rows p src k) ≡ length rows
          long = length-paste rows p src k in_rows in_source

          front : list_all in_rewrite (take p rows) ≡ true
          front = ap (list_all in_rewrite) (sym (take-take p t.count rows l)) ∙ all_take in_rewrite p (take t.count rows) parts.0

          up_is : t.count + (p + k + j - t.count) ≡ p + k + j
          up_is = omega (arith, up)

          back : list_all in_append (drop (p + k + j) rows) ≡ true
          back = ap (λ (n : ℕ). list_all in_append (drop n rows)) (sym up_is) ∙ ap (list_all in_append) (sym (drop-drop (p + k + j - t.count) t.count rows)) ∙ all_drop in_append (p + k + j - t.count) (drop t.count rows) parts.1.0

      told : (r : Rewritten) → Outcomes rows t incoming first gate r → well_formed (paste rows p src r.replaced) (record { first = t.first; count = r.count }) ≡ true
      told _ kept = ap (λ (l : List Location). well_formed l t) (sym same) ∙ f
      told _ (done g h o l e) = by_gate gate refl
        where
          k : ℕ
          k = run rows t incoming first gate

          in_rows : p + k ≤ length rows
          in_rows = run_in_rows rows t incoming first gate o

          in_source : k ≤ length src
          in_source = run_in_source rows t incoming first gate

          new : list_all in_rewrite src ≡ true
          new = all_drop in_rewrite (start_from t first) incoming (ready_all incoming first h)

          by_gate : (x : Option ℕ) → gate ≡ x → well_formed (paste rows p src k) (record { first = t.first; count = count_after gate (p + k) t.count }) ≡ true
          by_gate None z = moved k (t.count - (p + k)) (count_after gate (p + k) t.count) in_rows in_source new l (rw whole (le_refl t.count)) (rw whole (formed_count rows t f)) (ap (λ (x : Option ℕ). count_after x (p + k) t.count) z ∙ max-eq_right short ∙ sym whole) (rest_rewrite rows t.count (p + k) short parts.0)
            where
              short : p + k ≤ t.count
              short = run_short rows t.count p (overlap rows t incoming first gate) k l parts.1.0 (ap (λ (x : Option ℕ). run_of (stop_of x) (take (overlap rows t incoming first gate) (drop p rows))) z)

              whole : p + k + (t.count - (p + k)) ≡ t.count
              whole = add-sub_of_le short
          by_gate (Some n) z = moved k 0 (count_after gate (p + k) t.count) in_rows in_source new l (omega (arith, late)) (omega (arith, in_rows)) (ap (λ (x : Option ℕ). count_after x (p + k) t.count) z ∙ sym (add-zero (p + k))) refl
            where
              late : t.count ≤ p
              late = ltb-false p t.count (ap (λ (x : Option ℕ). early x p t.count) (sym z) ∙ e)

  -- "With a gate, append rows fall and rewrite rows rise by that number."
  pub rows_move : (n : ℕ) → gate ≡ Some n → (count_by in_append rows ≡ count_by in_append (rows_after rows t incoming first gate) + (outcome_of rows t incoming first gate).replaced) × (count_by in_rewrite (rows_after rows t incoming first gate) ≡ count_by in_rewrite rows + (outcome_of rows t incoming first gate).replaced)
  rows_move n z = rw (after_is rows t incoming first gate) (told (outcome_of rows t incoming first gate) (outcomes rows t incoming first gate))
    where
      told : (r : Rewritten) → Outcomes rows t incoming first gate r → (count_by in_append rows ≡ count_by in_append (paste rows p src r.replaced) + r.replaced) × (count_by in_rewrite (paste rows p src r.replaced) ≡ count_by in_rewrite rows + r.replaced)
      told _ kept = (omega (arith, ap (count_by in_append) same), omega (arith, ap (count_by in_rewrite) same))
      told _ (done g h o l e) = (append_falls rows p src k in_rows in_source old new, rewrite_rises rows p src k in_rows in_source old new)
        where
          k : ℕ
          k = run rows t incoming first gate

          in_rows : p + k ≤ length rows
          in_rows = run_in_rows rows t incoming first gate o

          in_source : k ≤ length src
          in_source = run_in_source rows t incoming first gate

          new : list_all in_rewrite (take k src) ≡ true
          new = all_take in_rewrite k src (all_drop in_rewrite (start_from t first) incoming (ready_all incoming first h))

          at_count : t.count ≡ p
          at_count = omega (arith, l, ltb-false p t.count (ap (λ (x : Option ℕ). early x p t.count) (sym z) ∙ e))

          old : list_all in_append (take k (drop p rows)) ≡ true
          old = all_take in_append k (drop p rows) (ap (λ (q : ℕ). list_all in_append (drop q rows)) (sym at_count) ∙ (formed_parts rows t g).1.0)

-- "Rewriting exactly a fetched run, incoming rows in the rewrite queue, under the same gate raises the count by its length, and the next fetch under that gate is empty."
module _ (rows : List Location) (t : Table) (gate : ℕ) (incoming : List Location) (formed : well_formed rows t ≡ true) (new : list_all in_rewrite incoming ≡ true) (exact : length incoming ≡ (fetched_run rows t gate).len) where
  is : ((fetched_run rows t gate).place ≡ t.count) × ((fetched_run rows t gate).len ≡ run_of (Stop.Above gate) (drop t.count rows))
  is = fetched_formed rows t gate formed

  pub fetched_rewritten : rewrite_of rows t incoming (fetched_at rows t gate) (Some gate) ≡ Ok (record { replaced = (fetched_run rows t gate).len; count = t.count + (fetched_run rows t gate).len })
  fetched_rewritten = rw (is.0, is.1) (whole_run rows t gate incoming formed new (exact ∙ is.1))

  pub fetched_next : fetch_of (rows_after rows t incoming (fetched_at rows t gate) (Some gate)) (new_table rows t incoming (fetched_at rows t gate) (Some gate)) gate ≡ Ok (record { place = t.count + (fetched_run rows t gate).len; len = 0 })
  fetched_next = fetched_is later_rows later_table gate (formed_stays rows t incoming (fetched_at rows t gate) (Some gate) formed) ∙ next later_table.count (run_of (Stop.Above gate) (drop later_table.count later_rows)) raised empty
    where
      later_rows : List Location
      later_rows = rows_after rows t incoming (fetched_at rows t gate) (Some gate)

      later_table : Table
      later_table = new_table rows t incoming (fetched_at rows t gate) (Some gate)

      long : ℕ
      long = (fetched_run rows t gate).len

      raised : later_table.count ≡ t.count + long
      raised = ap (λ (r : Result Rewritten Reason). (outcome r t.count).count) fetched_rewritten

      start : (a b c k l : ℕ) → b ≡ c → k ≡ l → (a + b - a) + k ≡ c + l
      start a b c k l e f = omega arith

      behind : start_place t (fetched_at rows t gate) + (outcome_of rows t incoming (fetched_at rows t gate) (Some gate)).replaced ≡ t.count + long
      behind = start t.first (fetched_run rows t gate).place t.count (outcome_of rows t incoming (fetched_at rows t gate) (Some gate)).replaced long is.0 (ap (λ (r : Result Rewritten Reason). (outcome r t.count).replaced) fetched_rewritten)

      rest : drop (t.count + long) later_rows ≡ drop (t.count + long) rows
      rest = ap (λ (n : ℕ). drop n later_rows) (sym behind) ∙ rows_behind_kept rows t incoming (fetched_at rows t gate) (Some gate) ∙ ap (λ (n : ℕ). drop n rows) behind

      empty : run_of (Stop.Above gate) (drop later_table.count later_rows) ≡ 0
      empty = ap (λ (n : ℕ). run_of (Stop.Above gate) (drop n later_rows)) raised ∙ ap (run_of (Stop.Above gate)) (rest ∙ sym (drop-drop long t.count rows)) ∙ ap (λ (n : ℕ). run_of (Stop.Above gate) (drop n (drop t.count rows))) is.1 ∙ run_over (Stop.Above gate) (drop t.count rows)

      next : (c k : ℕ) → c ≡ t.count + long → k ≡ 0 → ◌≡◌ {A = Result Fetched Reason} (Ok (record { place = c; len = k })) (Ok (record { place = t.count + long; len = 0 }))
      next c k e f = cc

-- The row rule holds of each call: where a second rewrite takes the rows that a first one left, its answer and the rows afterwards are the definition's, of the definition's.
pub one_after_other : (κs κs' : Lfts 2) (a : Args rw_fn.signature κs) (b : Args rw_fn.signature κs') (x : Res rw_fn.signature κs) (y : Res rw_fn.signature κs') (s : AtExit rw_fn.ended κs) (u : AtExit rw_fn.ended κs')
    → Rewrote a.0.now a.1.0 a.1.1.0.now a.1.1.1.0 a.1.1.1.1.0 x s.0.now → Rewrote b.0.now b.1.0 b.1.1.0.now b.1.1.1.0 b.1.1.1.1.0 y u.0.now → b.0.now ≡ s.0.now
    → (y ≡ rewrite_of (rows_after a.0.now a.1.0 a.1.1.0.now a.1.1.1.0 a.1.1.1.1.0) b.1.0 b.1.1.0.now b.1.1.1.0 b.1.1.1.1.0)
    × (u.0.now ≡ rows_after (rows_after a.0.now a.1.0 a.1.1.0.now a.1.1.1.0 a.1.1.1.1.0) b.1.0 b.1.1.0.now b.1.1.1.0 b.1.1.1.1.0)
one_after_other κs κs' a b x y s u first second on =
    (second.0 ∙ ap (λ (l : List Location). rewrite_of l b.1.0 b.1.1.0.now b.1.1.1.0 b.1.1.1.1.0) (on ∙ first.1), second.1 ∙ ap (λ (l : List Location). rows_after l b.1.0 b.1.1.0.now b.1.1.1.0 b.1.1.1.1.0) (on ∙ first.1))

-- Indexes up to 2^64 - 1. A table whose last index is that is well formed where its queues are right, and incoming rows that end there are taken where each is in the rewrite queue; what goes past it is not.
pub formed_at_last : (rows : List Location) (t : Table) → t.count ≤ length rows → list_all in_rewrite (take t.count rows) ≡ true → list_all in_append (drop t.count rows) ≡ true
    → t.first + length rows ≡ 2 ^ 64 → well_formed rows t ≡ true
formed_at_last rows t l a b e = formed_of rows t l a b (omega (arith, e))

pub formed_not_past : (rows : List Location) (t : Table) → well_formed rows t ≡ true → t.first + length rows ≤ 2 ^ 64
formed_not_past rows t e = omega (arith, (formed_parts rows t e).1.1)

pub ready_at_last : (incoming : List Location) (first : ℕ) → list_all in_rewrite incoming ≡ true → first + length incoming ≡ 2 ^ 64 → ready incoming first ≡ true
ready_at_last incoming first a e = ready_of incoming first a (omega (arith, e))

pub ready_not_past : (incoming : List Location) (first : ℕ) → ready incoming first ≡ true → first + length incoming ≤ 2 ^ 64
ready_not_past incoming first e = omega (arith, ready_fits incoming first e)

-- So it is with one row of the append queue at the last index, rewritten by one at the last index; and two rows from there are a 26, two incoming ones a 27.
pub at_last_index : (rewrite_of appended last incoming_row 18446744073709551615 (Some 1) ≡ Ok (record { replaced = 1; count = 1 })) × ((rows_after appended last incoming_row 18446744073709551615 (Some 1) ≡ incoming_row) × (fetch_of appended last 1 ≡ Ok (record { place = 0; len = 1 })))
unfolding rewrite_of rows_after fetch_of fetched answered well_formed ready
at_last_index = (refl, (refl, refl))

pub past_last_index : (rewrite_of (row_start LogQueue.Append 1 ∷ appended) last incoming_row 18446744073709551615 (Some 1) ≡ Err TableBroken) × (rewrite_of appended last (row_start LogQueue.Rewrite 5 ∷ incoming_row) 18446744073709551615 (Some 1) ≡ Err IncomingBroken)
unfolding rewrite_of answered well_formed ready
past_last_index = (refl, refl)
