-- Which refusal a writer gives a list of items: the checks in the order of document 01, but for 22 and 21.
-- Assumes nothing.
use Rattle.std.specs.Prelude.{ℕ, ◌+◌, Bool, List, [], ◌∷◌, Result, Ok, Err, leb, length, drop}
use Rattle.refusal.specs.First.{◌else◌, ◌>>◌, ◌>>=◌}
use Rattle.refusal.specs.declared.Reason.{Reason}
use Rattle.refusal.specs.declared.Reason.TheVariants.{ItemsTooMany}
use Rattle.refusal.specs.declared.Refusal.{Refusal}
use Rattle.refusal.specs.Number.{refusal_of}
use Rattle.log_item.specs.Entries.{entries_of}
use Rattle.log_item.specs.declared.LogItem.{LogItem}
use Rattle.log_item.specs.Refusing.{content_refusal}
use Rattle.log_item.specs.Written.{sum_of, row_lengths, tail_refusal}

-- a reason and its item
abbrev pub refused : {A : Type 0} → Reason → ℕ → Result A Refusal
refused r k = Err (refusal_of r k)

-- what item k answers, and where it is refused that it is this one
abbrev pub at_item : {A : Type 0} → ℕ → Result A Reason → Result A Refusal
at_item k (Ok x) = Ok x
at_item k (Err r) = refused r k

-- the entry total, or the first refusal of the items in order, the first of them with number k: items before use `used` rows, `lengths` are left,
-- the total t runs on
unfoldable pub items_verdict : List ℕ → Bool → List LogItem → List ℕ → ℕ → ℕ → ℕ → Result ℕ Refusal
items_verdict s checked [] lengths used k t = Ok t
items_verdict s checked (x ∷ xs) lengths used k t = do
  u ← at_item k (content_refusal s checked used (used + length lengths) x.content)
  u ← at_item k (tail_refusal x lengths t)
  items_verdict s checked xs (drop (entries_of x.content).count lengths) (used + (entries_of x.content).count) (k + 1) (sum_of t (row_lengths x lengths))

-- 9, then the items
unfoldable pub list_verdict : List ℕ → Bool → List LogItem → List ℕ → Result ℕ Refusal
list_verdict s checked xs lengths = do
  leb (length xs) 256 else refused ItemsTooMany 0
  items_verdict s checked xs lengths 0 0 0
