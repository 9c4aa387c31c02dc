-- The plain form of a body.
-- Assumes nothing.
use Rattle.std.specs.Prelude.{ℕ, List}
use Rattle.log_item.specs.declared.Form.TheVariants.{Plain}
use Rattle.log_item.specs.declared.LogItem.{LogItem}
use Rattle.log_item.specs.declared.EntryIndex.{EntryIndex}
use Rattle.log_item.specs.Spelling.{NumberIn}
use Rattle.log_batch.specs.Spelling.{Spells}
use Rattle.log_batch.specs.Acceptable.{Acceptable}

-- A body is acceptable, and in the bytes that its list spells each number has the shortest spelling.
pub record InPlainForm (body : List ℕ) (signature : ℕ) : Type 0 where
  pub items : List LogItem
  pub rows : List EntryIndex
  pub total : ℕ
  pub bytes : List ℕ
  pub acceptable : Acceptable body signature items rows total bytes
  pub shortest : Spells (NumberIn Plain) items rows total bytes
