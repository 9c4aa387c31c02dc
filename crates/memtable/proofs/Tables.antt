-- A well-formed table and incoming rows that are taken: their parts.
-- Assumes nothing.
use mathlib.Core.Path.{◌≡◌, sym, ap, ◌∙◌}
use Prim.Native.Nat.{ℕ, ◌+◌, ◌-◌, ◌≤◌}
use native.Mathlib.Nat.{add-sub_of_le}
use native.Mathlib.Omega.{arith}
use mathlib.Core.Bool.{true, ◌&&◌, and-eq-true_iff}
use mathlib.Core.List.{List}
use lib.Dec.{leb}
use lib.ListN.{length, take, drop}
use lib.Seq.{take-add, drop-drop}
use borrow.Author.Tests.{leb-true, le-leb}
use Rattle.std.specs.List.{list_all}
use Rattle.pipe_log.specs.declared.Location.{Location}
use Rattle.location_rules.specs.declared.Table.{Table}
use Rattle.location_rules.specs.declared.Stop.{Stop}
use Rattle.location_rules.specs.Row.{in_append, in_rewrite}
use Rattle.memtable.specs.Rows.{run_of}
use Rattle.location_rules.specs.Parts.{indexes_fit}
use Rattle.memtable.specs.Table.{well_formed, ready}
use Rattle.memtable.proofs.Queues.{all_right}
use Rattle.memtable.proofs.RunLaws.{run_part, run_front}

-- the parts of "well formed"
pub formed_parts : (rows : List Location) (t : Table) → well_formed rows t ≡ true → (list_all in_rewrite (take t.count rows) ≡ true) × ((list_all in_append (drop t.count rows) ≡ true) × (t.first + length rows ≤ 18446744073709551616))
unfolding well_formed
formed_parts rows t e = (b.0, (c.0, leb-true (t.first + length rows) 18446744073709551616 c.1))
  where
    a : (leb t.count (length rows) ≡ true) × ((list_all in_rewrite (take t.count rows) && (list_all in_append (drop t.count rows) && indexes_fit t.first (length rows))) ≡ true)
    a = (and-eq-true_iff _ _).0 e

    b : (list_all in_rewrite (take t.count rows) ≡ true) × ((list_all in_append (drop t.count rows) && indexes_fit t.first (length rows)) ≡ true)
    b = (and-eq-true_iff _ _).0 a.1

    c : (list_all in_append (drop t.count rows) ≡ true) × (indexes_fit t.first (length rows) ≡ true)
    c = (and-eq-true_iff _ _).0 b.1

pub formed_of : (rows : List Location) (t : Table) → t.count ≤ length rows → list_all in_rewrite (take t.count rows) ≡ true → list_all in_append (drop t.count rows) ≡ true → t.first + length rows ≤ 18446744073709551616 → well_formed rows t ≡ true
unfolding well_formed
formed_of rows t l a b m = (and-eq-true_iff _ _).1 (le-leb t.count (length rows) l, (and-eq-true_iff _ _).1 (a, (and-eq-true_iff _ _).1 (b, le-leb (t.first + length rows) 18446744073709551616 m)))

pub ready_all : (incoming : List Location) (first : ℕ) → ready incoming first ≡ true → list_all in_rewrite incoming ≡ true
unfolding ready
ready_all incoming first e = ((and-eq-true_iff (list_all in_rewrite incoming) _).0 e).0

pub ready_fits : (incoming : List Location) (first : ℕ) → ready incoming first ≡ true → first + length incoming ≤ 18446744073709551616
unfolding ready
ready_fits incoming first e = leb-true (first + length incoming) 18446744073709551616 ((and-eq-true_iff (list_all in_rewrite incoming) _).0 e).1

-- without a gate, in a well-formed table, a run from within the rewritten rows ends with them
pub run_short : (rows : List Location) (c p o k : ℕ) → p ≤ c → list_all in_append (drop c rows) ≡ true → k ≡ run_of Stop.Append (take o (drop p rows)) → p + k ≤ c
run_short rows c p o k l b e = omega (arith, e, run_part Stop.Append o (drop p rows), run_front (c - p) (drop p rows) (ap (list_all in_append) (drop-drop (c - p) p rows ∙ ap (λ (n : ℕ). drop n rows) (add-sub_of_le l)) ∙ b), l)

-- the rewritten rows behind the first q
pub rest_rewrite : (rows : List Location) (c q : ℕ) → q ≤ c → list_all in_rewrite (take c rows) ≡ true → list_all in_rewrite (take (c - q) (drop q rows)) ≡ true
rest_rewrite rows c q l a = all_right in_rewrite (take q rows) (take (c - q) (drop q rows)) (ap (list_all in_rewrite) (sym (take-add q (c - q) rows) ∙ ap (λ (n : ℕ). take n rows) (add-sub_of_le l)) ∙ a)

pub ready_of : (incoming : List Location) (first : ℕ) → list_all in_rewrite incoming ≡ true → first + length incoming ≤ 18446744073709551616 → ready incoming first ≡ true
unfolding ready
ready_of incoming first a l = (and-eq-true_iff _ _).1 (a, le-leb (first + length incoming) 18446744073709551616 l)
