-- Whether a table is well formed, incoming rows are taken, and which run is fetched, by how long runs are.
-- Assumes nothing.
use mathlib.Core.Path.{◌≡◌, refl, sym, ap, ◌∙◌}
use Prim.Native.Nat.{ℕ, suc, ◌+◌, ◌-◌, ◌<◌, ◌≤◌, min}
use native.Mathlib.Nat.{zero-add, sub-zero}
use native.Mathlib.Omega.{arith}
use mathlib.Core.Bool.{Bool, true, false, not, cond, ◌&&◌, and-eq-true_iff}
use mathlib.Core.List.{List, [], ◌∷◌}
use lib.Dec.{leb, leb-suc-suc, leb-suc-zero}
use lib.ListN.{length, take, drop, length-drop}
use lib.Seq.{take_all, length-take-le}
use borrow.Author.Tests.{lt-leb, leb-true, leb-false}
use Rattle.std.specs.Prelude.{Err}
use Rattle.std.specs.List.{list_all}
use Rattle.std.proofs.lemmas.Bool.Decides.{nat_tests}
use Rattle.refusal.specs.declared.Reason.TheVariants.{TableBroken}
use Rattle.pipe_log.specs.declared.Location.{Location}
use Rattle.location_rules.specs.declared.Table.{Table}
use Rattle.location_rules.specs.declared.Stop.{Stop}
use Rattle.location_rules.specs.Row.{in_append, in_rewrite, stops_at}
use Rattle.memtable.specs.Rows.{run_of}
use Rattle.memtable.specs.Table.{well_formed, ready}
use Rattle.location_rules.specs.Decisions.{fetched}
use Rattle.memtable.specs.Fetching.{fetch_in}
use Rattle.location_rules.specs.Parts.{well_formed_by, ready_by}
use Rattle.memtable.proofs.Queues.{not_append, not_rewrite}

-- the count of a well-formed table is within its rows
pub formed_count : (ys : List Location) (t : Table) → well_formed ys t ≡ true → t.count ≤ length ys
unfolding well_formed
formed_count ys t e = leb-true t.count (length ys) ((and-eq-true_iff (leb t.count (length ys)) _).0 e).0

-- a row more: the run reaches the end exactly where neither this row nor one of the others stops it
one_more : (b : Bool) (n k : ℕ) (c : Bool) → leb n k ≡ c → leb (suc n) (cond b 0 (suc k)) ≡ (not b && c)
one_more true n k c e = leb-suc-zero n
one_more false n k c e = leb-suc-suc n k ∙ e

-- the run up to a row of one queue takes in all rows exactly where all are in the other
all_other : (s : Stop) (test : Location → Bool) → ((r : Location) → not (stops_at s r) ≡ test r) → (rows : List Location) → leb (length rows) (run_of s rows) ≡ list_all test rows
all_other s test f [] = refl
all_other s test f (r ∷ rs) = one_more (stops_at s r) (length rs) (run_of s rs) (list_all test rs) (all_other s test f rs) ∙ ap (λ (b : Bool). b && list_all test rs) (f r)

all_rewrite : (rows : List Location) → leb (length rows) (run_of Stop.Append rows) ≡ list_all in_rewrite rows
all_rewrite = all_other Stop.Append in_rewrite (λ r. not_append r.queue)

-- the rows from c on, all of them
from_on : (c : ℕ) (rows : List Location) → take (length rows - c) (drop c rows) ≡ drop c rows
from_on c rows = take_all (length rows - c) (drop c rows) (omega (arith, length-drop c rows))

-- the same number on both sides of a test
added : (c n k : ℕ) → c ≤ n → leb n (c + k) ≡ leb (n - c) k
added c n k l = grind (arith, nat_tests)

module _ (ys : List Location) (t : Table) where
  -- a count within the rows
  inside : (f b : ℕ) → t.count ≤ length ys → f ≡ run_of Stop.Append (take t.count ys) → b ≡ t.count + run_of Stop.Rewrite (drop t.count ys) → well_formed_by t (length ys) f b ≡ well_formed ys t
  unfolding well_formed_by well_formed
  inside f b l e₁ e₂ = rw (front, back) refl
    where
      front : leb t.count f ≡ list_all in_rewrite (take t.count ys)
      front = ap (leb t.count) e₁ ∙ ap (λ (k : ℕ). leb k (run_of Stop.Append (take t.count ys))) (sym (length-take-le t.count ys l)) ∙ all_rewrite (take t.count ys)

      back : leb (length ys) b ≡ list_all in_append (drop t.count ys)
      back = ap (leb (length ys)) e₂ ∙ added t.count (length ys) (run_of Stop.Rewrite (drop t.count ys)) l
          ∙ ap (λ (k : ℕ). leb k (run_of Stop.Rewrite (drop t.count ys))) (sym (length-drop t.count ys)) ∙ all_other Stop.Rewrite in_append (λ r. not_rewrite r.queue) (drop t.count ys)

  outside : (f b : ℕ) → length ys < t.count → well_formed_by t (length ys) f b ≡ well_formed ys t
  unfolding well_formed_by well_formed
  outside f b l = rw (lt-leb t.count (length ys) l) refl

  pub formed_by : (n c f b : ℕ) → n ≡ length ys → c ≡ min t.count n → f ≡ 0 + run_of Stop.Append (take (c - 0) (drop 0 ys)) → b ≡ c + run_of Stop.Rewrite (take (n - c) (drop c ys)) → well_formed_by t n f b ≡ well_formed ys t
  formed_by n c f b e e₀ e₁ e₂ = rw e (told (leb t.count (length ys)) refl)
    where
      back : b ≡ c + run_of Stop.Rewrite (drop c ys)
      back = e₂ ∙ ap (λ (k : ℕ). c + run_of Stop.Rewrite (take (k - c) (drop c ys))) e ∙ ap (λ (v : List Location). c + run_of Stop.Rewrite v) (from_on c ys)

      told : (x : Bool) → leb t.count (length ys) ≡ x → well_formed_by t (length ys) f b ≡ well_formed ys t
      told true z =
          let l = leb-true t.count (length ys) z in
          let same : c ≡ t.count = omega (arith, e, e₀, l) in
          inside f b l (e₁ ∙ zero-add _ ∙ ap (λ (k : ℕ). run_of Stop.Append (take k ys)) (sub-zero c ∙ same)) (back ∙ ap (λ (k : ℕ). k + run_of Stop.Rewrite (drop k ys)) same)
      told false z = outside f b (leb-false t.count (length ys) z)

-- a count above the rows
pub not_formed : (isWhole : Bool) (ys : List Location) (t : Table) → length ys < t.count → false ≡ (isWhole && well_formed ys t)
unfolding well_formed
not_formed true ys t l = rw (lt-leb t.count (length ys) l) refl
not_formed false ys t l = refl

-- incoming rows
pub ready_by_run : (ys : List Location) (first n e : ℕ) → n ≡ length ys → e ≡ 0 + run_of Stop.Append (take (n - 0) (drop 0 ys)) → ready_by e n first ≡ ready ys first
unfolding ready_by ready
ready_by_run ys first n e same h = rw (same, all) refl
  where
    all : leb (length ys) e ≡ list_all in_rewrite ys
    all = ap (leb (length ys)) (h ∙ zero-add _ ∙ ap (λ (k : ℕ). run_of Stop.Append (take (k - 0) ys)) same ∙ ap (run_of Stop.Append) (from_on 0 ys)) ∙ all_rewrite ys

-- the run from the count on
pub fetched_by : (isWhole : Bool) (ys : List Location) (t : Table) (gate : ℕ) (good : Bool) (n c e : ℕ) → good ≡ (isWhole && well_formed ys t) → n ≡ length ys → c ≡ min t.count n
    → e ≡ c + run_of (Stop.Above gate) (take (n - c) (drop c ys)) → fetched good t (e - c) ≡ fetch_in isWhole ys t gate
unfolding fetched fetch_in
fetched_by isWhole ys t gate good n c e e₀ long e₁ e₂ = told (isWhole && well_formed ys t) refl
  where
    run : e - c ≡ run_of (Stop.Above gate) (drop c ys)
    run = omega (arith, e₂) ∙ ap (λ (k : ℕ). run_of (Stop.Above gate) (take (k - c) (drop c ys))) long ∙ ap (run_of (Stop.Above gate)) (from_on c ys)

    at_count : (isWhole && well_formed ys t) ≡ true → c ≡ t.count
    at_count z = omega (arith, e₁, long, formed_count ys t ((and-eq-true_iff isWhole (well_formed ys t)).0 z).1)

    told : (b : Bool) → (isWhole && well_formed ys t) ≡ b → fetched good t (e - c) ≡ fetched (isWhole && well_formed ys t) t (run_of (Stop.Above gate) (drop t.count ys))
    told true z = rw e₀ (ap (fetched (isWhole && well_formed ys t) t) (run ∙ ap (λ (k : ℕ). run_of (Stop.Above gate) (drop k ys)) (at_count z)))
    told false z = rw (e₀, z) refl

pub not_fetched : (isWhole : Bool) (ys : List Location) (t : Table) (gate : ℕ) → (isWhole && well_formed ys t) ≡ false → Err TableBroken ≡ fetch_in isWhole ys t gate
unfolding fetched fetch_in
not_fetched isWhole ys t gate z = rw z refl
