-- What reading into lent rows answers, and what the rows hold afterwards.
-- Assumes nothing.
use Rattle.std.specs.Prelude.{◌≡◌, ℕ, ◌&&◌, List, ◌++◌, length, drop, nat_le, Result}
use Rattle.refusal.specs.First.{◌else◌, ◌>>◌}
use Rattle.item_row.specs.Row.{item_row_count, entry_row_count, items_words, entries_words}
use Rattle.log_batch.specs.declared.BodyCheck.{BodyCheck}
use Rattle.log_batch.specs.Reading.{Answer, accepted, rejected}
use Rattle.log_batch.specs.Answers.{check_of}
use Rattle.refusal.specs.declared.Reason.TheVariants.{OutputShort}
use Rattle.refusal.specs.declared.Refusal.{Refusal}

-- an answer that has more rows than are lent is a 21
abbrev pub fitting : List ℕ → List ℕ → Answer → Answer
fitting items entries (accepted xs rows u q) = do
  nat_le (length xs) (item_row_count items) && nat_le (length rows) (entry_row_count entries) else rejected OutputShort 0
  accepted xs rows u q
fitting items entries (rejected r i) = rejected r i

-- the rows of the answer, then what stood there; a refused reading leaves all as it was
abbrev pub items_after : Answer → List ℕ → List ℕ
items_after (accepted xs rows u q) items = items_words xs ++ drop (length (items_words xs)) items
items_after (rejected r i) items = items

abbrev pub entries_after : Answer → List ℕ → List ℕ
entries_after (accepted xs rows u q) entries = entries_words rows ++ drop (length (entries_words rows)) entries
entries_after (rejected r i) entries = entries

-- the later contents of the rows that are lent
pub record Filled (a : Answer) (items entries later more : List ℕ) : Type 0 where
  pub item_rows : later ≡ items_after a items
  pub entry_rows : more ≡ entries_after a entries

-- the answer r to a reading that comes to a, and the rows that are lent
pub record RowsRead (a : Answer) (items entries : List ℕ) (r : Result BodyCheck Refusal) (later more : List ℕ) : Type 0 where
  pub answer : r ≡ check_of (fitting items entries a)
  pub rows : Filled (fitting items entries a) items entries later more
