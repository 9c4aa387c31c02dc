-- Rows that are all in one queue: parts of them, and how many they are.
-- Assumes nothing.
use mathlib.Core.Path.{◌≡◌, refl, ap, ◌∙◌}
use Prim.Native.Nat.{ℕ, ◌+◌}
use native.Mathlib.Omega.{arith}
use mathlib.Core.Bool.{Bool, true, not, cond, and-eq-true_iff}
use mathlib.Core.List.{List, [], ◌∷◌, ◌++◌}
use lib.ListN.{length, take, drop, take-append-drop}
use Rattle.std.specs.List.{list_all, count_by}
use Rattle.std.proofs.lemmas.List.Folds.{list_all-append}
use Rattle.std.proofs.lemmas.List.Sums.{sum_by-cons, sum_by-append}
use Rattle.pipe_log.specs.declared.Location.{Location}
use Rattle.pipe_log.specs.declared.LogQueue.{LogQueue}
use Rattle.location_rules.specs.Row.{is_append, is_rewrite}

module _ (test : Location → Bool) where
  both : (a b : List Location) → (list_all test (a ++ b) ≡ true → (list_all test a ≡ true) × (list_all test b ≡ true)) × ((list_all test a ≡ true) × (list_all test b ≡ true) → list_all test (a ++ b) ≡ true)
  both a b = rw (list_all-append test a b) (and-eq-true_iff (list_all test a) (list_all test b))

  pub all_join : (a b : List Location) → list_all test a ≡ true → list_all test b ≡ true → list_all test (a ++ b) ≡ true
  all_join a b e f = (both a b).1 (e, f)

  pub all_right : (a b : List Location) → list_all test (a ++ b) ≡ true → list_all test b ≡ true
  all_right a b e = ((both a b).0 e).1

  parts : (k : ℕ) (rows : List Location) → list_all test rows ≡ true → (list_all test (take k rows) ≡ true) × (list_all test (drop k rows) ≡ true)
  parts k rows e = (both (take k rows) (drop k rows)).0 (ap (list_all test) (take-append-drop k rows) ∙ e)

  pub all_take : (k : ℕ) (rows : List Location) → list_all test rows ≡ true → list_all test (take k rows) ≡ true
  all_take k rows e = (parts k rows e).0

  pub all_drop : (k : ℕ) (rows : List Location) → list_all test rows ≡ true → list_all test (drop k rows) ≡ true
  all_drop k rows e = (parts k rows e).1

  -- how many they are
  pub rows_in_join : (a b : List Location) → count_by test (a ++ b) ≡ count_by test a + count_by test b
  rows_in_join a b = sum_by-append (λ x. cond (test x) 1 0) a b

  pub rows_in_all : (rows : List Location) → list_all test rows ≡ true → count_by test rows ≡ length rows
  rows_in_all [] e = refl
  rows_in_all (r ∷ rs) e =
      let z = (and-eq-true_iff (test r) (list_all test rs)).0 e in
      let one : ◌≡◌ {A = ℕ} (cond (test r) 1 0) 1 = rw z.0 refl in
      omega (arith, sum_by-cons (λ x. cond (test x) 1 0) r rs, one, rows_in_all rs z.1)

-- a row is in one queue alone
pub not_append : (q : LogQueue) → not (is_append q) ≡ is_rewrite q
not_append LogQueue.Append = refl
not_append LogQueue.Rewrite = refl

pub not_rewrite : (q : LogQueue) → not (is_rewrite q) ≡ is_append q
not_rewrite LogQueue.Append = refl
not_rewrite LogQueue.Rewrite = refl

-- where all rows pass a test, none passes the opposite one
pub none_in : (test other : Location → Bool) → ((r : Location) → not (test r) ≡ other r) → (rows : List Location) → list_all test rows ≡ true → count_by other rows ≡ 0
none_in test other f [] e = refl
none_in test other f (r ∷ rs) e =
    let z = (and-eq-true_iff (test r) (list_all test rs)).0 e in
    let zero : ◌≡◌ {A = ℕ} (cond (other r) 1 0) 0 = rw (← f r, z.0) refl in
    omega (arith, sum_by-cons (λ x. cond (other x) 1 0) r rs, zero, none_in test other f rs z.1)
