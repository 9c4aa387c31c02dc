-- What reading an item at a place answers: its pieces and its checks, in the order of document 01. A refusal is the number of the first check that failed.
-- Assumes nothing.
use Rattle.std.specs.Prelude.{ℕ, zero, suc, ◌+◌, cond, List, [], ◌∷◌, leb, eqb}
use Rattle.log_item.specs.Got.{Reading, done, refuse, ◌>>=◌, ◌>>◌, ◌else◌}
use Rattle.log_item.specs.Pieces.{byte, number, span}
use Rattle.log_item.specs.Entries.{entries_of, tail_row}
use Rattle.log_item.specs.declared.Form.{Form}
use Rattle.log_item.specs.declared.Command.{Command}
use Rattle.log_item.specs.declared.Command.TheVariants.{Clean, Compact}
use Rattle.log_item.specs.declared.KeyValue.{KeyValue}
use Rattle.log_item.specs.declared.Op.TheVariants.{Put, Del}
use Rattle.log_item.specs.declared.EntryIndexes.{EntryIndexes}
use Rattle.log_item.specs.declared.LogItemContent.{LogItemContent}
use Rattle.log_item.specs.declared.LogItemContent.TheVariants as contents
use Rattle.log_item.specs.declared.LogItem.{LogItem}
use Rattle.log_item.specs.declared.EntryIndex.{EntryIndex}
use Rattle.refusal.specs.declared.Reason.TheVariants.{CommandUnknown, EntriesTooMany, IndexTooLarge, ItemTypeUnknown, OpUnknown, TailFalls, TailTooLarge}

-- an item, its rows, and the total after it
pub record Read : Type 0 where
  pub item : LogItem
  pub rows : List EntryIndex
  pub total : ℕ

module _ (form : Form) (s : List ℕ) where
  -- a count of entries, with e before them in the batch
  unfoldable pub entry_count_of : ℕ → Reading ℕ
  entry_count_of e = do
    n ← number form s
    leb (e + n) 1024 else EntriesTooMany
    done n

  -- if n > 0 the first index
  unfoldable pub first_index_of : ℕ → Reading EntryIndexes
  first_index_of zero = done (record { count = 0; first_index = 0 })
  first_index_of (suc n) = do
    i ← number form s
    leb (i + n) 18446744073709551615 else IndexTooLarge
    done (record { count = suc n; first_index = i })

  -- the count and the first index
  unfoldable pub entry_indexes : ℕ → Reading EntryIndexes
  entry_indexes e = do
    n ← entry_count_of e
    first_index_of n

  -- 1 clean, or 2 compact and an index
  unfoldable pub command : Reading Command
  command = do
    b ← byte s
    cond (eqb b 1) (done Clean)
        (cond (eqb b 2) (do i ← number form s; done (Compact i))
        (refuse CommandUnknown))

  -- a key and its content
  unfoldable pub put_at : Reading KeyValue
  put_at = do
    k ← span form s
    v ← span form s
    done (record { key = k; op = Put v })

  -- op 1 (put: key, content) or op 2 (delete: key)
  unfoldable pub key_value_of : Reading KeyValue
  key_value_of = do
    b ← byte s
    cond (eqb b 1) put_at
        (cond (eqb b 2) (do k ← span form s; done (record { key = k; op = Del }))
        (refuse OpUnknown))

  -- the content of an item of type b, up to its tails
  unfoldable pub content : ℕ → ℕ → Reading LogItemContent
  content e b =
      cond (eqb b 1) (do x ← entry_indexes e; done (contents.EntryIndexes x))
      (cond (eqb b 2) (do c ← command; done (contents.Command c))
      (cond (eqb b 3) (do k ← key_value_of; done (contents.Kv k))
      (refuse ItemTypeUnknown)))

  -- an item up to its tails: group number, type byte, content
  unfoldable pub head : ℕ → Reading LogItem
  head e = do
    g ← number form s
    b ← byte s
    c ← content e b
    done (record { raft_group_id = g; content = c })

  -- a tail, with the total t before it
  unfoldable pub tail : ℕ → Reading ℕ
  tail t = do
    w ← number form s
    leb w 4294967295 else TailTooLarge
    leb t w else TailFalls
    done w

  -- n tails from the index i on, with the total t before them: their rows, and the total after them
  unfoldable pub tails : ℕ → ℕ → ℕ → Reading (List EntryIndex × ℕ)
  tails zero i t = done ([], t)
  tails (suc n) i t = do
    w ← tail t
    (rows, u) ← tails n (i + 1) w
    done (tail_row i t w ∷ rows, u)

  -- the tails of an item whose head was read, with the total t before them
  abbrev pub with_tails : LogItem → ℕ → Reading Read
  with_tails x t = do
    (rows, u) ← tails (entries_of x.content).count (entries_of x.content).first_index t
    done (record { item = x; rows = rows; total = u })

  -- an item, with e entries and the total t before it
  unfoldable pub one_item : ℕ → ℕ → Reading Read
  one_item e t = do
    x ← head e
    with_tails x t
