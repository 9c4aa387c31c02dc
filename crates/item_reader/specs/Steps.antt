-- What a step over a body answers: the item at a place, or the end, or a refusal, and where the step leads.
-- Assumes nothing.
use Rattle.std.specs.Prelude.{ℕ, ◌+◌, cond, List, nat_lt, Option, Some, None, Result, Ok, Err}
use Rattle.refusal.specs.declared.Refusal.{Refusal}
use Rattle.refusal.specs.Number.{refusal_of}
use Rattle.log_item.specs.Got.{Got, got, refused}
use Rattle.log_item.specs.Entries.{entries_of}
use Rattle.log_item.specs.Answers.{counted_item}
use Rattle.log_item.specs.declared.Form.TheVariants.{Any}
use Rattle.log_item.specs.declared.LogItem.{LogItem}
use Rattle.log_item.specs.declared.EntryIndexes.{EntryIndexes}
use Rattle.log_item.specs.declared.ItemRead.{ItemRead}
use Rattle.log_batch.specs.Seal.{sealed_part}
use Rattle.item_reader.specs.declared.EntryRows.{EntryRows}
use Rattle.item_reader.specs.declared.Found.{Found}
use Rattle.item_reader.specs.declared.Cursor.{Cursor}
use Rattle.item_reader.specs.declared.Stepped.{Stepped}

-- where the rows of entries stand whose tails begin at p, with the total t before them
abbrev pub rows_standing : EntryIndexes → ℕ → ℕ → EntryRows
rows_standing d p t = record { at = p; total = t; index = d.first_index; left = d.count }

-- an item, and where its rows stand
abbrev pub found_at : LogItem → ℕ → ℕ → Found
found_at x p t = record { item = x; rows = rows_standing (entries_of x.content) p t }

-- a step that leads nowhere
abbrev pub stayed : Cursor → Result (Option Found) Refusal → Stepped
stayed c answer = record { cursor = c; answer = answer }

-- a step over the item that is read, to the next item
abbrev pub step_over : Cursor → Got ItemRead → Stepped
step_over c (got x q) =
    record { cursor = record c { at = q; total = x.total; used = x.used; item = c.item + 1 }; answer = Ok (Some (found_at x.item x.tails c.total)) }
step_over c (refused r) = stayed c (Err (refusal_of r c.item))

-- the body's refusal where it has one
abbrev pub unless_refused : Option Refusal → Cursor → Stepped → Stepped
unless_refused (Some r) c s = stayed c (Err r)
unless_refused None c s = s

-- the next step of a cursor on a body: the refusal, or the item at its place where one is left, or the end
unfoldable pub stepped : List ℕ → Cursor → Stepped
stepped body c =
    unless_refused c.refusal c
    (cond (nat_lt c.item c.count) (step_over c (counted_item Any (sealed_part body) c.used c.total c.at)) (stayed c (Ok None)))
