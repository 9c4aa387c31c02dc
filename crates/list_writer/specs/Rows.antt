-- A list whose rows may spell no item: its items end at the first such row, which is refused at its turn.
-- Assumes nothing.
use Rattle.std.specs.Prelude.{ℕ, Bool, List, [], ◌∷◌, Result, Ok, Err, leb, length}
use Rattle.refusal.specs.First.{◌else◌, ◌>>◌, ◌>>=◌, Checked, fine}
use Rattle.refusal.specs.declared.Reason.{Reason}
use Rattle.refusal.specs.declared.Reason.TheVariants.{ItemsTooMany}
use Rattle.refusal.specs.declared.Refusal.{Refusal}
use Rattle.log_item.specs.declared.LogItem.{LogItem}
use Rattle.list_writer.specs.declared.Measured.{Measured}
use Rattle.list_writer.specs.Bytes.{list_bytes, body_bytes}
use Rattle.list_writer.specs.Refusing.{refused, at_item, items_verdict}
use Rattle.list_writer.specs.Answers.{measured_of}

-- the items that rows spell, up to the first row that is none
unfoldable pub items_before : List (Result LogItem Reason) → List LogItem
items_before [] = []
items_before (Ok x ∷ rows) = x ∷ items_before rows
items_before (Err r ∷ rows) = []

-- why that row is none, where there is one
unfoldable pub row_behind : List (Result LogItem Reason) → Checked Reason
row_behind [] = fine
row_behind (Ok x ∷ rows) = row_behind rows
row_behind (Err r ∷ rows) = Err r

-- 9, then the items, then the row behind them
unfoldable pub rows_verdict : List ℕ → Bool → List (Result LogItem Reason) → List ℕ → Result ℕ Refusal
rows_verdict s checked rows lengths = do
  leb (length rows) 256 else refused ItemsTooMany 0
  total ← items_verdict s checked (items_before rows) lengths 0 0 0
  u ← at_item (length (items_before rows)) (row_behind rows)
  Ok total

-- the first refusal but 21, or the body's length and the entry total
unfoldable pub rows_measure : List ℕ → Bool → List (Result LogItem Reason) → List ℕ → Result Measured Refusal
rows_measure s checked rows lengths = measured_of (rows_verdict s checked rows lengths) (length (list_bytes s (items_before rows) lengths))

-- the bytes of the body
abbrev pub rows_bytes : List ℕ → List (Result LogItem Reason) → List ℕ → ℕ → List ℕ
rows_bytes s rows lengths signature = body_bytes s (items_before rows) lengths signature
