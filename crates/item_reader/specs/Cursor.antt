-- What a cursor started on a body holds, and what it holds and answers step after step.
-- Assumes nothing.
use Rattle.std.specs.Prelude.{ℕ, zero, suc, List, length, Option, Some, None, Result}
use Rattle.refusal.specs.declared.Refusal.{Refusal}
use Rattle.refusal.specs.Number.{refusal_of}
use Rattle.log_item.specs.Got.{Got, got, refused}
use Rattle.log_item.specs.Pieces.{number}
use Rattle.log_item.specs.declared.Form.TheVariants.{Any}
use Rattle.log_batch.specs.Reading.{Answer, accepted, rejected}
use Rattle.log_batch.specs.Seal.{sealed_part}
use Rattle.log_batch.specs.Body.{read_body}
use Rattle.item_reader.specs.declared.Cursor.{Cursor}
use Rattle.item_reader.specs.declared.Found.{Found}
use Rattle.item_reader.specs.Steps.{stepped}

-- the place after a number, 0 where there is none
abbrev pub place_of : Got ℕ → ℕ
place_of (got n q) = q
place_of (refused r) = 0

-- the first item stands after the item count
unfoldable pub after_count : List ℕ → ℕ
after_count s = place_of (number Any s 0)

-- at the first of so many items, or with that refusal
abbrev pub at_first : ℕ → ℕ → Option Refusal → Cursor
at_first place count refusal = record { at = place; total = 0; used = 0; item = 0; count = count; refusal = refusal }

-- what the plain reading of a body finds: its items from the place p on, or its refusal
abbrev pub start_by : ℕ → Answer → Cursor
start_by p (accepted xs rows u q) = at_first p (length xs) None
start_by p (rejected r i) = at_first 0 0 (Some (refusal_of r i))

-- a cursor started on a body under a signature
unfoldable pub started : List ℕ → ℕ → Cursor
started body signature = start_by (after_count (sealed_part body)) (read_body body signature)

-- the cursor after k steps, and what step number k answers, counted from 0
unfoldable pub after_steps : List ℕ → Cursor → ℕ → Cursor
after_steps body c zero = c
after_steps body c (suc k) = (stepped body (after_steps body c k)).cursor

abbrev pub nth_step : List ℕ → Cursor → ℕ → Result (Option Found) Refusal
nth_step body c k = (stepped body (after_steps body c k)).answer
