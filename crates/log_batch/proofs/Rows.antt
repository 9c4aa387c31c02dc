-- The rows of an item: how many there are, and how their spans and indexes lie.
-- Assumes nothing.
use Rattle.std.proofs.Common.{◌≡◌, ℕ, ◌+◌, ◌-◌, List, ◌++◌, length, refl, arith}
use Rattle.log_item.specs.declared.LogItem.{LogItem}
use Rattle.log_item.specs.declared.EntryIndex.{EntryIndex}
use Rattle.log_item.specs.Entries.{entries_of}
use Rattle.log_item.specs.Spelling.{Tails, no_more, next, OneItem, item}
use Rattle.log_batch.specs.Rows.{Joined, Consecutive}
use Rattle.log_batch.specs.Rows as lie
use Rattle.log_item.proofs.Complete.{tails_length}

module _ {N : ℕ → List ℕ → Type 0} where
  -- The entry spans start at the total before, each where the one before ended, and the last ends at the total after.
  pub tails_joined : {n i t u : ℕ} {rows : List EntryIndex} {x : List ℕ} → Tails N n i rows t u x → Joined t u rows
  tails_joined no_more = lie.Joined.end
  tails_joined (next {t = t} {w = w} num rises g) =
      let e : w ≡ t + (w - t) = omega arith in
      lie.Joined.then refl (rw e at (tails_joined g))

  -- The indexes are consecutive.
  pub tails_consecutive : {n i t u : ℕ} {rows : List EntryIndex} {x : List ℕ} → Tails N n i rows t u x → Consecutive i rows
  tails_consecutive no_more = lie.Consecutive.end
  tails_consecutive (next num rises g) = lie.Consecutive.then refl (tails_consecutive g)

  -- An item has as many rows as it states entries.
  pub item_length : {x : LogItem} {rows : List EntryIndex} {t u p : ℕ} {bytes : List ℕ} → OneItem N x rows t u p bytes → length rows ≡ (entries_of x.content).count
  item_length (item num c g) = tails_length g

  -- The entry spans of an item start at the total before it, each where the one before ended, and the last ends at the total after it.
  pub item_joined : {x : LogItem} {rows : List EntryIndex} {t u p : ℕ} {bytes : List ℕ} → OneItem N x rows t u p bytes → Joined t u rows
  item_joined (item num c g) = tails_joined g

  -- The indexes of an item are consecutive from its first index on.
  pub item_consecutive : {x : LogItem} {rows : List EntryIndex} {t u p : ℕ} {bytes : List ℕ} → OneItem N x rows t u p bytes
      → Consecutive (entries_of x.content).first_index rows
  item_consecutive (item num c g) = tails_consecutive g

-- Entry spans, and entry spans that start where the first ones end, are joined together.
pub joined_append : {t v u : ℕ} {a b : List EntryIndex} → Joined t v a → Joined v u b → Joined t u (a ++ b)
joined_append lie.Joined.end g = g
joined_append (lie.Joined.then e h) g = lie.Joined.then e (joined_append h g)
