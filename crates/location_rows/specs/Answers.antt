-- What a rewrite and a fetch answer on rows of words, and the words afterwards: memtable's definitions, of the locations that the rows are.
-- Assumes nothing.
use Rattle.std.specs.Prelude.{◌≡◌, ℕ, ◌*◌, Option, None, Some, Result, Err, List, ◌++◌, length, drop}
use Rattle.refusal.specs.First.{◌else◌, ◌>>◌}
use Rattle.refusal.specs.declared.Reason.{Reason}
use Rattle.refusal.specs.declared.Reason.TheVariants.{TableBroken, IncomingBroken}
use Rattle.pipe_log.specs.declared.Location.{Location}
use Rattle.location_rules.specs.declared.Table.{Table}
use Rattle.location_rules.specs.declared.Rewritten.{Rewritten}
use Rattle.location_rules.specs.declared.Fetched.{Fetched}
use Rattle.memtable.specs.Table.{well_formed}
use Rattle.memtable.specs.Rewriting.{rewrite_of, rows_after}
use Rattle.memtable.specs.Fetching.{fetch_of}
use Rattle.location_rows.specs.Words.{rows_of, rows_words}

abbrev pub table_from : ℕ → ℕ → Table
table_from first count = record { first = first; count = count }

-- a row of the table that is no location's is a 26, an incoming one a 27
abbrev pub rewrite_rows : Option (List Location) → Table → Option (List Location) → ℕ → Option ℕ → Result Rewritten Reason
rewrite_rows None t incoming first gate = Err TableBroken
rewrite_rows (Some xs) t None first gate = do
  well_formed xs t else Err TableBroken
  Err IncomingBroken
rewrite_rows (Some xs) t (Some ys) first gate = rewrite_of xs t ys first gate

-- the words of the rows after the rewrite, then what stood there; the words as they were where a row is no location's
abbrev pub rows_afterwards : Option (List Location) → Table → Option (List Location) → ℕ → Option ℕ → List ℕ → List ℕ
rows_afterwards None t incoming first gate words = words
rows_afterwards (Some xs) t None first gate words = words
rows_afterwards (Some xs) t (Some ys) first gate words = rows_words (rows_after xs t ys first gate) ++ drop (length xs * 6) words

abbrev pub fetch_rows : Option (List Location) → Table → ℕ → Result Fetched Reason
fetch_rows None t gate = Err TableBroken
fetch_rows (Some xs) t gate = fetch_of xs t gate

-- the answer r to a rewrite of the words of a table, and their later contents
pub record RowsRewritten (words : List ℕ) (t : Table) (incoming : List ℕ) (first : ℕ) (gate : Option ℕ) (r : Result Rewritten Reason) (later : List ℕ) : Type 0 where
  pub answer : r ≡ rewrite_rows (rows_of words) t (rows_of incoming) first gate
  pub after : later ≡ rows_afterwards (rows_of words) t (rows_of incoming) first gate words

unfoldable pub fetch_words : List ℕ → Table → ℕ → Result Fetched Reason
fetch_words words t gate = fetch_rows (rows_of words) t gate
