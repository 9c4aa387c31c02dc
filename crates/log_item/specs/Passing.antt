-- What going over tails and items answers. The contracts of private functions alone cite this file.
-- Assumes nothing.
use Rattle.std.specs.Prelude.{ℕ, ◌+◌, List, leb}
use Rattle.log_item.specs.Got.{Reading, done, ◌>>=◌, ◌>>◌, ◌else◌}
use Rattle.log_item.specs.Entries.{entries_of}
use Rattle.log_item.specs.Reading.{entry_indexes, content, tails}
use Rattle.log_item.specs.declared.Form.{Form}
use Rattle.log_item.specs.declared.EntryIndexes.{EntryIndexes}
use Rattle.log_item.specs.declared.Passed.{Passed}
use Rattle.refusal.specs.declared.Reason.TheVariants.{TailFalls, TailTooLarge}

-- a number w as a tail, with the total t before it
unfoldable pub as_tail : ℕ → ℕ → Reading ℕ
as_tail t w = do
  leb w 4294967295 else TailTooLarge
  leb t w else TailFalls
  done w

-- n tails without their rows: the total after them. The indexes do not matter
unfoldable pub pass_tails : Form → List ℕ → ℕ → ℕ → Reading ℕ
pass_tails form s n t = do
  (rows, u) ← tails form s n 0 t
  done u

module _ (form : Form) (s : List ℕ) where
  -- the tails that entries state, with e entries and the total t before them: the total and the number of entries after them
  abbrev pub pass_stated : ℕ → ℕ → EntryIndexes → Reading Passed
  pass_stated e t x = do
    u ← pass_tails form s x.count t
    done (record { total = u; used = e + x.count })

  -- entries and their tails
  unfoldable pub pass_entries : ℕ → ℕ → Reading Passed
  pass_entries e t = do
    x ← entry_indexes form s e
    pass_stated e t x

  -- a content of type b and its tails
  unfoldable pub pass_content : ℕ → ℕ → ℕ → Reading Passed
  pass_content e t b = do
    c ← content form s e b
    pass_stated e t (entries_of c)
