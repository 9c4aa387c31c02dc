-- What is read where no rows are made, or no item: the readings with these forgotten.
-- Assumes nothing.
use Rattle.std.specs.Prelude.{ℕ, ◌+◌, List, length, Result, Ok, Err}
use Rattle.words.specs.declared.Piece.{Piece}
use Rattle.words.specs.Word.{piece}
use Rattle.log_item.specs.Got.{Got, got, refused, Reading, done, here, ◌>>=◌}
use Rattle.log_item.specs.Reading.{head, with_tails}
use Rattle.log_item.specs.declared.Form.{Form}
use Rattle.log_item.specs.declared.ItemRead.{ItemRead}
use Rattle.log_item.specs.declared.Passed.{Passed}
use Rattle.log_item.specs.declared.NotPassed.{NotPassed}
use Rattle.log_item.specs.declared.NotPassed.TheVariants.{Padded, Refused}
use Rattle.refusal.specs.declared.Reason.{Reason}
use Rattle.refusal.specs.declared.Reason.TheVariants.{NotShortest}

-- an item as one_item reads it, with the place of its tails and the number of entries after it in the place of its rows
unfoldable pub counted_item : Form → List ℕ → ℕ → ℕ → Reading ItemRead
counted_item form s e t = do
  x ← head form s e
  p ← here
  r ← with_tails form s x t
  done (record { item = r.item; tails = p; total = r.total; used = e + length r.rows })

-- the total and the number of entries after an item; the item and the place of its tails are forgotten
unfoldable pub pass_item : Form → List ℕ → ℕ → ℕ → Reading Passed
pass_item form s e t = do
  r ← counted_item form s e t
  done (record { total = r.total; used = r.used })

-- a padded number is a case of its own, and no refusal
abbrev pub not_passed : Reason → NotPassed
not_passed NotShortest = Padded
not_passed r = Refused r

-- what going over an item answers
abbrev pub passed_of : Got Passed → Result (Piece Passed) NotPassed
passed_of (got x q) = Ok (piece x q)
passed_of (refused r) = Err (not_passed r)
