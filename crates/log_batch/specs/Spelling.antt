-- Which bytes spell which list of items, over any relation of numbers to their spellings: relations, with no reading procedure.
-- A place counts from the start of the body.
-- Assumes nothing.
use Rattle.std.specs.Prelude.{ℕ, ◌+◌, List, [], ◌∷◌, ◌++◌, length}
use Rattle.log_item.specs.declared.LogItem.{LogItem}
use Rattle.log_item.specs.declared.EntryIndex.{EntryIndex}
use Rattle.log_item.specs.Spelling.{OneItem}

module _ (Number : ℕ → List ℕ → Type 0) where
  -- Items from the place p on, each where the one before ended, with all their rows. The total runs on: t before them, u after them.
  pub data Items : List LogItem → List EntryIndex → ℕ → ℕ → ℕ → List ℕ → Type 0 where
    end : {t p : ℕ} → Items [] [] t t p []
    then : {x : LogItem} {xs : List LogItem} {rows more : List EntryIndex} {t v u p : ℕ} {bytes later : List ℕ} → OneItem Number x rows t v p bytes
        → Items xs more v u (p + length bytes) later → Items (x ∷ xs) (rows ++ more) t u p (bytes ++ later)

  -- Item count, items: the total runs from 0.
  pub data Spells : List LogItem → List EntryIndex → ℕ → List ℕ → Type 0 where
    list : {xs : List LogItem} {rows : List EntryIndex} {total : ℕ} {count bytes : List ℕ} → Number (length xs) count
        → Items xs rows 0 total (length count) bytes → Spells xs rows total (count ++ bytes)
