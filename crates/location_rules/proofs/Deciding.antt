-- The answer of a rewrite by the first check that fails, and that of a fetch which is refused: a law for each.
-- Assumes nothing.
use mathlib.Core.Path.{◌≡◌, refl}
use Prim.Native.Nat.{ℕ, ◌+◌, ◌<◌, ◌≤◌, max}
use native.Mathlib.Omega.{arith}
use mathlib.Core.Bool.{Bool, true, false}
use borrow.Author.Tests.{lt-ltb, le-ltb, lt-leb, le-leb, eq-eqb, ne_eqb}
use Rattle.std.specs.Prelude.{Option, Some, None, Ok, Err}
use Rattle.refusal.specs.declared.Reason.TheVariants.{OverlapAfter, OverlapBefore, TableBroken, IncomingBroken}
use Rattle.location_rules.specs.declared.Table.{Table}
use Rattle.location_rules.specs.Decisions.{unchanged, answered, fetched}

module _ (t : Table) (start overlap run : ℕ) (gate : Option ℕ) where
  pub broken : (good ready : Bool) → good ≡ false → answered good ready t start overlap run gate ≡ Err TableBroken
  unfolding answered
  broken good ready e = rw e

  pub not_ready : (good ready : Bool) → good ≡ true → ready ≡ false → answered good ready t start overlap run gate ≡ Err IncomingBroken
  unfolding answered
  not_ready good ready e f = rw (e, f)

  -- the rest lies behind those two
  pub apart : overlap ≡ 0 → answered true true t start overlap run gate ≡ Ok (unchanged t.count)
  unfolding answered
  apart e = rw (eq-eqb overlap 0 e)

  pub starts_late : 0 < overlap → t.count < start → answered true true t start overlap run gate ≡ Err OverlapAfter
  unfolding answered
  starts_late l b = rw (ne_eqb overlap 0 (λ z. omega (arith, l, z)), lt-leb start t.count b)

pub starts_early : (t : Table) (start overlap run gate : ℕ) → 0 < overlap → start < t.count → answered true true t start overlap run (Some gate) ≡ Err OverlapBefore
unfolding answered
starts_early t start overlap run gate l b = rw (ne_eqb overlap 0 (λ z. omega (arith, l, z)), le-leb start t.count (omega arith), lt-ltb start t.count b)

-- where no check fails, without a gate and with one
pub ungated : (t : Table) (start overlap run : ℕ) → 0 < overlap → start ≤ t.count → answered true true t start overlap run None ≡ Ok (record { replaced = run; count = max (start + run) t.count })
unfolding answered
ungated t start overlap run l b = rw (ne_eqb overlap 0 (λ z. omega (arith, l, z)), le-leb start t.count b) refl

pub gated : (t : Table) (overlap run gate : ℕ) → 0 < overlap → answered true true t t.count overlap run (Some gate) ≡ Ok (record { replaced = run; count = t.count + run })
unfolding answered
gated t overlap run gate l = rw (ne_eqb overlap 0 (λ z. omega (arith, l, z)), le-leb t.count t.count (omega arith), le-ltb t.count t.count (omega arith)) refl

pub fetched_broken : (t : Table) (run : ℕ) → fetched false t run ≡ Err TableBroken
unfolding fetched
fetched_broken t run = refl
