-- What a rewrite and a fetch answer, once it is known whether the table is well formed, how far the rows overlap and how long the run is.
-- Assumes nothing.
use Rattle.std.specs.Prelude.{ℕ, ◌+◌, max, ◌≡◌, Bool, false, not, Option, None, Some, Result, Ok, Err, List, leb, ltb, eqb}
use Rattle.refusal.specs.First.{◌else◌, ◌>>◌}
use Rattle.refusal.specs.declared.Reason.{Reason}
use Rattle.refusal.specs.declared.Reason.TheVariants.{OverlapAfter, OverlapBefore, TableBroken, IncomingBroken}
use Rattle.location_rules.specs.declared.Table.{Table}
use Rattle.location_rules.specs.declared.Rewritten.{Rewritten}
use Rattle.location_rules.specs.declared.Fetched.{Fetched}

-- a gate is given and the overlap begins before the rewritten count
abbrev pub early : Option ℕ → ℕ → ℕ → Bool
early None place count = false
early (Some gate) place count = ltb place count

-- with a gate the count becomes the start's place plus replaced, without one the larger of that and the old count
abbrev pub count_after : Option ℕ → ℕ → ℕ → ℕ
count_after None reached count = max reached count
count_after (Some gate) reached count = reached

abbrev pub unchanged : ℕ → Rewritten
unchanged count = record { replaced = 0; count = count }

-- how many rows were replaced and the count afterwards; a refused one holds 0 and the old count
abbrev pub outcome : Result Rewritten Reason → ℕ → Rewritten
outcome (Ok r) count = r
outcome (Err e) count = unchanged count

-- 26, 27; nothing incoming, or no overlap: unchanged; then 24, 25; else the run is replaced
unfoldable pub answered : Bool → Bool → Table → ℕ → ℕ → ℕ → Option ℕ → Result Rewritten Reason
answered isFormed isReady t place overlap run gate = do
  isFormed else Err TableBroken
  isReady else Err IncomingBroken
  not (eqb overlap 0) else Ok (unchanged t.count)
  leb place t.count else Err OverlapAfter
  not (early gate place t.count) else Err OverlapBefore
  Ok (record { replaced = run; count = count_after gate (place + run) t.count })

-- nothing is replaced, and the count and the rows, or their words, are the old ones
abbrev pub Kept : {A : Type 0} → List A → Table → Rewritten → List A → Type 0
Kept lent t r later = (r.replaced ≡ 0) × ((r.count ≡ t.count) × (later ≡ lent))

abbrev pub no_run : Fetched
no_run = record { place = 0; len = 0 }

-- the run; a refused fetch has none
abbrev pub found : Result Fetched Reason → Fetched
found (Ok f) = f
found (Err e) = no_run

-- place and length of the run, an empty one too; or 26
unfoldable pub fetched : Bool → Table → ℕ → Result Fetched Reason
fetched isFormed t run = do
  isFormed else Err TableBroken
  Ok (record { place = t.count; len = run })
