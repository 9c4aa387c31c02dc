-- What a reader opened on a body holds, and what it holds and answers call after call.
-- Assumes nothing.
use Rattle.std.specs.Prelude.{ℕ, zero, suc, List, Option, Result}
use Rattle.std.specs.Borrow.{Bor}
use Rattle.refusal.specs.declared.Refusal.{Refusal}
use Rattle.item_reader.specs.declared.Cursor.{Cursor}
use Rattle.item_reader.specs.declared.Found.{Found}
use Rattle.item_reader.specs.declared.ItemReader.{ItemReader}
use Rattle.item_reader.specs.declared.Stepped.{Stepped}
use Rattle.item_reader.specs.Steps.{stepped}
use Rattle.item_reader.specs.Cursor.{started}

-- a reader of a body, where a cursor stands
abbrev pub reader_at : Bor (List ℕ) → Cursor → ItemReader
reader_at body c = record { body = body; cursor = c }

-- a reader opened on a body under a signature
abbrev pub opened : Bor (List ℕ) → ℕ → ItemReader
opened body signature = reader_at body (started body.now signature)

-- the next step of a reader
abbrev pub step_from : ItemReader → Stepped
step_from r = stepped r.body.now r.cursor

-- the reader where it leads
abbrev pub after_call : ItemReader → ItemReader
after_call r = reader_at r.body (step_from r).cursor

-- the reader after k calls, and what call number k answers, counted from 0
unfoldable pub after_calls : ItemReader → ℕ → ItemReader
after_calls r zero = r
after_calls r (suc k) = after_call (after_calls r k)

abbrev pub nth_of : ItemReader → ℕ → Result (Option Found) Refusal
nth_of r k = (step_from (after_calls r k)).answer
