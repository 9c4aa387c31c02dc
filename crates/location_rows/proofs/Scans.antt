-- The loops over rows: whether each is a location's, and where a run of them ends.
-- Assumes nothing.
use mathlib.Core.Path.{◌≡◌, refl, sym, ap, ◌∙◌}
use Prim.Native.Nat.{ℕ, zero, suc, ◌+◌, ◌-◌, ◌*◌, ◌<◌, ◌≤◌, min}
use native.Mathlib.Nat.{add-zero}
use native.Mathlib.Omega.{arith}
use mathlib.Core.Bool.{Bool, true, false, cond, ◌&&◌}
use mathlib.Core.List.{List, ◌++◌}
use lib.Dec.{leb}
use lib.ListN.{length, get_or, take, drop, get_or-append, length-append, length-take, length-drop}
use lib.Seq.{drop-cons, get_or-drop}
use borrow.Author.Tests.{le-leb, lt-leb}
use Rattle.std.proofs.lemmas.List.{drop_at}
use Rattle.pipe_log.specs.declared.Location.{Location}
use Rattle.pipe_log.specs.declared.LogQueue.{LogQueue}
use Rattle.location_rules.specs.declared.Stop.{Stop}
use Rattle.location_rules.specs.Row.{stops_at, row_start}
use Rattle.memtable.specs.Rows.{run_of}
use Rattle.memtable.proofs.RunLaws.{run_le}
use Rattle.location_rows.specs.Words.{queue_of, location_of, are_rows, location_count, located}
use Rattle.location_rows.proofs.Rows.{located_length, location_at}

-- ---- one row

pub rewrite_queue : (queue : ℕ) → (queue ≡ 0 → ⊥) → LogQueue.Rewrite ≡ queue_of queue
rewrite_queue zero f = absurd (f refl)
rewrite_queue (suc queue) f = refl

-- a stop looks at the queue and the file number alone
stops_same : (stop : Stop) (row : Location) → stops_at stop row ≡ stops_at stop (row_start row.queue row.seq)
stops_same Stop.Append row = refl
stops_same Stop.Rewrite row = refl
stops_same (Stop.Above gate) row = refl

-- the first word of the rest, and the words after it
at_start : (words : List ℕ) (k : ℕ) → get_or (drop k words) 0 0 ≡ get_or words k 0
at_start words k = get_or-drop k words 0 0 ∙ ap (λ (m : ℕ). get_or words m 0) (add-zero k)

-- ---- where a run ends

-- what `get_or` gives past the end, where nothing asks for it
abbrev no_row : Location
no_row = row_start LogQueue.Append 0

module _ (words : List ℕ) (stop : Stop) (hi : ℕ) where
  -- the run from row i on, before hi
  abbrev pub run_from : ℕ → ℕ
  run_from i = run_of stop (take (hi - i) (drop i (located words)))

  -- the rows before hi are those before end
  module _ {n end : ℕ} (all : n ≡ length (located words)) (cut : end ≡ min hi n) where
    pub run_within : (i : ℕ) → run_from i ≤ end - i
    run_within i = omega (arith, all, cut, run_le stop (take (hi - i) (drop i (located words))), length-take (hi - i) (drop i (located words)), length-drop i (located words))

    run_step : (i : ℕ) → i < end → run_from i ≡ cond (stops_at stop (get_or (located words) i no_row)) 0 (suc (run_from (suc i)))
    run_step i l =
        ap (λ (m : ℕ). run_of stop (take m (drop i (located words)))) one
        ∙ ap (λ (v : List Location). run_of stop (take (suc (hi - suc i)) v)) (drop-cons (located words) i no_row (omega (arith, all, cut, l)))
      where
        one : hi - i ≡ suc (hi - suc i)
        one = omega (arith, cut, l)

    module _ (i : ℕ) (l : i < end) {b : Bool} (e : b ≡ stops_at stop (row_start (queue_of (get_or words (i * 6) 0)) (get_or words (i * 6 + 1) 0))) where
      row : stops_at stop (get_or (located words) i no_row) ≡ b
      row =
          ap (stops_at stop) (location_at (location_count words) i words no_row (omega (arith, all, cut, l, located_length words)))
          ∙ stops_same stop (location_of (drop (i * 6) words)) ∙ (rw (at_start words (i * 6), get_or-drop (i * 6) words 1 0) (sym e))

      pub run_stops : b ≡ true → run_from i ≡ 0
      run_stops f = run_step i l ∙ ap (λ (t : Bool). cond t 0 (suc (run_from (suc i)))) (row ∙ f)

      pub run_passes : b ≡ false → run_from i ≡ suc (run_from (suc i))
      run_passes f = run_step i l ∙ ap (λ (t : Bool). cond t 0 (suc (run_from (suc i)))) (row ∙ f)

-- ---- whether each row is a location's

module _ (left row more : List ℕ) (parts : left ≡ row ++ more) (six : length row ≡ 6) where
  one_row : are_rows (location_count left) left ≡ (leb (get_or row 0 0) 1 && are_rows (location_count more) more)
  one_row = rw (parts, count) (ap (λ (n : ℕ). leb n 1 && are_rows (location_count more) (drop 6 (row ++ more))) (get_or-append row more 0 0 (omega arith)) ∙ ap (λ (v : List ℕ). leb (get_or row 0 0) 1 && are_rows (location_count more) v) (drop_at row more 6 six))
    where
      count : location_count (row ++ more) ≡ suc (location_count more)
      count = omega (arith, length-append row more, six)

  pub row_broken : 1 < get_or row 0 0 → are_rows (location_count left) left ≡ false
  row_broken l = one_row ∙ (rw (lt-leb (get_or row 0 0) 1 l) refl)

  pub row_whole : get_or row 0 0 ≤ 1 → are_rows (location_count left) left ≡ are_rows (location_count more) more
  row_whole l = one_row ∙ (rw (le-leb (get_or row 0 0) 1 l) refl)
