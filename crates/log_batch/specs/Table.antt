-- The table that holds an answer: rows in order, the others blank. A refused reading is the empty table with its refusal.
-- Assumes nothing.
use Rattle.std.specs.Prelude.{ℕ, ◌-◌, List, ◌++◌, length, replicate, Option, Some, None}
use Rattle.log_item.specs.Blank.{blank_item, blank_entry}
use Rattle.log_item.specs.declared.Span.{Span}
use Rattle.refusal.specs.declared.Refusal.{Refusal}
use Rattle.refusal.specs.Number.{refusal_of}
use Rattle.log_batch.specs.declared.LogItemBatch.{LogItemBatch}
use Rattle.log_batch.specs.Reading.{Answer, accepted, rejected}

-- a table of n rows that begins with the list, the others blank
abbrev pub pad : {A : Type 0} → A → ℕ → List A → List A
pad z n xs = xs ++ replicate (n - length xs) z

-- no rows
abbrev pub empty_table : Option Refusal → LogItemBatch
empty_table refusal =
    record {
      items = replicate 256 blank_item;
      item_count = 0;
      entries = replicate 1024 blank_entry;
      entry_count = 0;
      total = 0;
      next = 0;
      body = record { at = 0; len = 0 };
      block = record { at = 0; len = 0 };
      refusal = refusal;
    }

-- the table of an answer, with the places of body and block in the bytes that were read
unfoldable pub table_of : Span → Span → Answer → LogItemBatch
table_of body block (accepted xs rows u q) =
    record {
      items = pad blank_item 256 xs;
      item_count = length xs;
      entries = pad blank_entry 1024 rows;
      entry_count = length rows;
      total = u;
      next = q;
      body = body;
      block = block;
      refusal = None;
    }
table_of body block (rejected r i) = empty_table (Some (refusal_of r i))

-- the table of a body by itself: it stands at 0, and there is no block
abbrev pub body_table : List ℕ → Answer → LogItemBatch
body_table body a = table_of (record { at = 0; len = length body }) (record { at = 0; len = 0 }) a
