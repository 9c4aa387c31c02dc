-- What the contracts of private functions cite: this file serves them alone, and no public contract.
-- Assumes nothing.
use Rattle.std.specs.Prelude.{ℕ, Bool, List, Result}
use Rattle.refusal.specs.First.{◌>>=◌}
use Rattle.refusal.specs.declared.Reason.{Reason}
use Rattle.log_item.specs.declared.HeadSize.{HeadSize}
use Rattle.log_item.specs.declared.LogItem.{LogItem}
use Rattle.log_item.specs.Written.{measure_item}

-- why a row spells no item; or the first refusal of its item but 16, or its length up to its tails and how many rows it uses
abbrev pub row_head : List ℕ → Bool → ℕ → ℕ → Result LogItem Reason → Result HeadSize Reason
row_head s checked used rows row = do
  x ← row
  measure_item s checked used rows x
