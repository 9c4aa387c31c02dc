-- How long a run of rows is: in a part of them, and after it.
-- Assumes nothing.
use mathlib.Core.Path.{◌≡◌, refl, ap}
use Prim.Native.Nat.{ℕ, zero, suc, ◌<◌, ◌≤◌}
use native.Mathlib.Nat.{le_refl, not-suc-le-zero, le_of_suc-le-suc}
use native.Mathlib.Omega.{arith}
use mathlib.Core.Bool.{Bool, true, false, cond, and-eq-true_iff}
use mathlib.Core.List.{List, [], ◌∷◌}
use lib.ListN.{length, get_or, take, drop, length-take}
use Rattle.std.specs.List.{list_all}
use Rattle.pipe_log.specs.declared.Location.{Location}
use Rattle.location_rules.specs.declared.Stop.{Stop}
use Rattle.location_rules.specs.Row.{in_append, stops_at}
use Rattle.memtable.specs.Rows.{run_of}

-- a row more
one_more : (b : Bool) (k n : ℕ) → k ≤ n → cond b 0 (suc k) ≤ suc n
one_more true k n l = omega arith
one_more false k n l = omega (arith, l)

both_more : (b : Bool) (k n : ℕ) → k ≤ n → cond b 0 (suc k) ≤ cond b 0 (suc n)
both_more true k n l = le_refl 0
both_more false k n l = omega (arith, l)

module _ (s : Stop) where
  pub run_le : (rows : List Location) → run_of s rows ≤ length rows
  run_le [] = le_refl 0
  run_le (r ∷ rs) = one_more (stops_at s r) (run_of s rs) (length rs) (run_le rs)

  pub run_take_le : (k : ℕ) (rows : List Location) → run_of s (take k rows) ≤ k
  run_take_le k rows = omega (arith, run_le (take k rows), length-take k rows)

  pub run_part : (k : ℕ) (rows : List Location) → run_of s (take k rows) ≤ run_of s rows
  run_part zero rows = omega arith
  run_part (suc k) [] = le_refl 0
  run_part (suc k) (r ∷ rs) = both_more (stops_at s r) (run_of s (take k rs)) (run_of s rs) (run_part k rs)

  -- the rows of a run have no stop, and the run ends at one
  pub run_whole : (rows : List Location) → run_of s (take (run_of s rows) rows) ≡ run_of s rows
  run_whole [] = refl
  run_whole (r ∷ rs) = told (stops_at s r) refl (run_whole rs)
    where
      told : (b : Bool) → stops_at s r ≡ b → run_of s (take (run_of s rs) rs) ≡ run_of s rs → run_of s (take (run_of s (r ∷ rs)) (r ∷ rs)) ≡ run_of s (r ∷ rs)
      told true e h = rw e refl
      told false e h = rw (e, e) (ap suc h)

  pub run_over : (rows : List Location) → run_of s (drop (run_of s rows) rows) ≡ 0
  run_over [] = refl
  run_over (r ∷ rs) = told (stops_at s r) refl (run_over rs)
    where
      told : (b : Bool) → stops_at s r ≡ b → run_of s (drop (run_of s rs) rs) ≡ 0 → run_of s (drop (run_of s (r ∷ rs)) (r ∷ rs)) ≡ 0
      told true e h = rw (e, e) refl
      told false e h = rw e h

-- without a gate: where the rows from place j on are in the append queue, a run ends there or before
pub run_front : (j : ℕ) (rows : List Location) → list_all in_append (drop j rows) ≡ true → run_of Stop.Append rows ≤ j
run_front j [] e = omega arith
run_front zero (r ∷ rs) e = rw ((and-eq-true_iff (in_append r) (list_all in_append rs)).0 e).0 (le_refl 0)
run_front (suc j) (r ∷ rs) e = one_more (in_append r) (run_of Stop.Append rs) j (run_front j rs e)

-- A run is the longest: no row of it stops, and where it ends before the rows do, the next row does.
pub run_no_stop : (s : Stop) (rows : List Location) (i : ℕ) (d : Location) → i < run_of s rows → stops_at s (get_or rows i d) ≡ false
run_no_stop s [] i d l = absurd (not-suc-le-zero l)
run_no_stop s (r ∷ rs) i d l = told (stops_at s r) refl i l (λ j. run_no_stop s rs j d)
  where
    told : (b : Bool) → stops_at s r ≡ b → (j : ℕ) → j < run_of s (r ∷ rs) → ((k : ℕ) → k < run_of s rs → stops_at s (get_or rs k d) ≡ false) → stops_at s (get_or (r ∷ rs) j d) ≡ false
    told true e j m h = absurd (not-suc-le-zero (rw e at m))
    told false e zero m h = e
    told false e (suc j) m h = h j (le_of_suc-le-suc (rw e at m))

pub run_at_stop : (s : Stop) (rows : List Location) (d : Location) → run_of s rows < length rows → stops_at s (get_or rows (run_of s rows) d) ≡ true
run_at_stop s [] d l = absurd (not-suc-le-zero l)
run_at_stop s (r ∷ rs) d l = told (stops_at s r) refl l (run_at_stop s rs d)
  where
    told : (b : Bool) → stops_at s r ≡ b → run_of s (r ∷ rs) < length (r ∷ rs) → (run_of s rs < length rs → stops_at s (get_or rs (run_of s rs) d) ≡ true) → stops_at s (get_or (r ∷ rs) (run_of s (r ∷ rs)) d) ≡ true
    told true e m h = rw e e
    told false e m h = rw e (h (le_of_suc-le-suc (rw e at m)))
