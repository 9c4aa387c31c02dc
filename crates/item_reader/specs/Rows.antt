-- What reading the next of an item's rows answers, with no table.
-- Assumes nothing.
use Rattle.std.specs.Prelude.{ℕ, zero, suc, ◌+◌, ◌-◌, ◌%◌, ◌^◌, List, Option, Some, None, Result, Ok, Err}
use Rattle.refusal.specs.declared.Reason.{Reason}
use Rattle.log_item.specs.Got.{Got, got, refused}
use Rattle.log_item.specs.Entries.{tail_row}
use Rattle.log_item.specs.Reading.{tail}
use Rattle.log_item.specs.declared.Form.TheVariants.{Any}
use Rattle.item_reader.specs.declared.EntryRows.{EntryRows}
use Rattle.item_reader.specs.declared.NextRow.{NextRow}

-- the row of a tail, and the rows after it. The index after the last entry may come round to 0
abbrev pub row_of_tail : EntryRows → Got ℕ → Result (Option NextRow) Reason
row_of_tail r (got w q) =
    Ok (Some (record { row = tail_row r.index r.total w; rest = record { at = q; total = w; index = (r.index + 1) % 2 ^ 64; left = r.left - 1 } }))
row_of_tail r (refused reason) = Err reason

-- the row at the next tail, where there is one left
abbrev pub if_left : ℕ → Result (Option NextRow) Reason → Result (Option NextRow) Reason
if_left zero a = Ok None
if_left (suc n) a = a

unfoldable pub next_row : List ℕ → EntryRows → Result (Option NextRow) Reason
next_row s r = if_left r.left (row_of_tail r (tail Any s r.total r.at))
