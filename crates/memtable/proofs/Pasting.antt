-- Rows with a run replaced: what is in which queue, and how many.
-- Assumes nothing.
use mathlib.Core.Path.{◌≡◌, sym, ap, ◌∙◌}
use Prim.Native.Nat.{ℕ, ◌+◌, ◌≤◌}
use native.Mathlib.Omega.{arith}
use mathlib.Core.Bool.{Bool, true}
use mathlib.Core.List.{List, ◌++◌}
use lib.ListN.{length, take, drop, length-drop, take-append-drop}
use lib.Seq.{paste, take-paste, drop-paste, take-add, drop-drop, take-append-le, take-take, length-take-le}
use Rattle.std.specs.List.{list_all, count_by}
use Rattle.pipe_log.specs.declared.Location.{Location}
use Rattle.location_rules.specs.Row.{in_append, in_rewrite}
use Rattle.memtable.proofs.Queues.{all_join, rows_in_join, rows_in_all, not_append, not_rewrite, none_in}

-- k rows of xs, from p on, replaced by the first k of src
module _ (xs : List Location) (p : ℕ) (src : List Location) (k : ℕ) (in_rows : p + k ≤ length xs) (in_source : k ≤ length src) where
  p_in : p ≤ length xs
  p_in = omega arith

  -- rows outside the run are as they were
  pub before_same : take p (paste xs p src k) ≡ take p xs
  before_same = sym (take-take p (p + k) (paste xs p src k) (omega arith)) ∙ ap (take p) (take-paste xs p src k p_in in_source) ∙ take-append-le p (take p xs) (take k src) (omega (arith, length-take-le p xs p_in)) ∙ take-take p p xs (omega arith)

  -- the first p + k + j rows are in the rewrite queue, the others in the append queue
  pub rewrite_front : (j : ℕ) → list_all in_rewrite (take p xs) ≡ true → list_all in_rewrite (take k src) ≡ true → list_all in_rewrite (take j (drop (p + k) xs)) ≡ true → list_all in_rewrite (take (p + k + j) (paste xs p src k)) ≡ true
  rewrite_front j a b c =
      ap (list_all in_rewrite) (take-add (p + k) j (paste xs p src k) ∙ ap (λ (l : List Location). l ++ take j (drop (p + k) (paste xs p src k))) (take-paste xs p src k p_in in_source) ∙ ap (λ (l : List Location). (take p xs ++ take k src) ++ take j l) (drop-paste xs p src k p_in in_source))
      ∙ all_join in_rewrite (take p xs ++ take k src) (take j (drop (p + k) xs)) (all_join in_rewrite (take p xs) (take k src) a b) c

  pub append_back : (j : ℕ) → drop (p + k + j) (paste xs p src k) ≡ drop (p + k + j) xs
  append_back j = sym (drop-drop j (p + k) (paste xs p src k)) ∙ ap (drop j) (drop-paste xs p src k p_in in_source) ∙ drop-drop j (p + k) xs

  -- xs as what stands before the run, the run, and what stands behind it
  parts : xs ≡ take p xs ++ take k (drop p xs) ++ drop (p + k) xs
  parts = sym (take-append-drop (p + k) xs) ∙ ap (λ (l : List Location). l ++ drop (p + k) xs) (take-add p k xs)

  module _ (test : Location → Bool) where
    three : (a b c : List Location) → count_by test (a ++ b ++ c) ≡ count_by test a + count_by test b + count_by test c
    three a b c = rows_in_join test (a ++ b) c ∙ ap (λ (n : ℕ). n + count_by test c) (rows_in_join test a b)

    pub rows_before : count_by test xs ≡ count_by test (take p xs) + count_by test (take k (drop p xs)) + count_by test (drop (p + k) xs)
    rows_before = ap (count_by test) parts ∙ three (take p xs) (take k (drop p xs)) (drop (p + k) xs)

    pub rows_after_lem : count_by test (paste xs p src k) ≡ count_by test (take p xs) + count_by test (take k src) + count_by test (drop (p + k) xs)
    rows_after_lem = three (take p xs) (take k src) (drop (p + k) xs)

  module _ (old : list_all in_append (take k (drop p xs)) ≡ true) (new : list_all in_rewrite (take k src) ≡ true) where
    pub append_falls : count_by in_append xs ≡ count_by in_append (paste xs p src k) + k
    append_falls = omega (arith, rows_before in_append, rows_after_lem in_append, rows_in_all in_append (take k (drop p xs)) old, length-take-le k (drop p xs) (omega (arith, length-drop p xs)), none_in in_rewrite in_append (λ r. not_rewrite r.queue) (take k src) new)

    pub rewrite_rises : count_by in_rewrite (paste xs p src k) ≡ count_by in_rewrite xs + k
    rewrite_rises = omega (arith, rows_before in_rewrite, rows_after_lem in_rewrite, rows_in_all in_rewrite (take k src) new, length-take-le k src in_source, none_in in_append in_rewrite (λ r. not_append r.queue) (take k (drop p xs)) old)
