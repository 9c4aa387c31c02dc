-- How the rows of entries lie: their spans in the block's content, and their indexes, item by item.
-- Assumes nothing.
use Rattle.std.specs.Prelude.{◌≡◌, ℕ, ◌+◌, List, [], ◌∷◌, ◌++◌, length}
use Rattle.log_item.specs.declared.LogItem.{LogItem}
use Rattle.log_item.specs.declared.EntryIndex.{EntryIndex}
use Rattle.log_item.specs.Entries.{entries_of}

-- The entry spans start at t, each where the one before ended, and the last ends at u.
pub data Joined : ℕ → ℕ → List EntryIndex → Type 0 where
  end : {t : ℕ} → Joined t t []
  then : {t u : ℕ} {r : EntryIndex} {rows : List EntryIndex} → r.entry_offset ≡ t → Joined (t + r.entry_len) u rows → Joined t u (r ∷ rows)

-- The indexes are consecutive from i on.
pub data Consecutive : ℕ → List EntryIndex → Type 0 where
  end : {i : ℕ} → Consecutive i []
  then : {i : ℕ} {r : EntryIndex} {rows : List EntryIndex} → r.index ≡ i → Consecutive (i + 1) rows → Consecutive i (r ∷ rows)

-- Each item has as many rows as it states entries, the items in order, and the indexes of an item are consecutive from its first index on.
pub data Indexed : List LogItem → List EntryIndex → Type 0 where
  end : Indexed [] []
  then : {x : LogItem} {xs : List LogItem} {rows more : List EntryIndex} → length rows ≡ (entries_of x.content).count
      → Consecutive (entries_of x.content).first_index rows → Indexed xs more → Indexed (x ∷ xs) (rows ++ more)
