-- The bytes of an entry: a part of whichever block its row's queue names. Checks on that block: 20, then 5 and 6 unless it is empty, then 13.
-- Assumes nothing.
use Rattle.std.specs.Prelude.{ℕ, ◌+◌, List, length, ◌==◌, nat_le, Option, Some, None, Ok, Err}
use Rattle.std.specs.Borrow.{Bor}
use Rattle.words.specs.Part.{Part, part_at, front_of}
use Rattle.refusal.specs.First.{◌else◌, ◌>>◌, ◌>>=◌, Checked, fine, if_fine}
use Rattle.pipe_log.specs.declared.LogQueue.{LogQueue}
use Rattle.pipe_log.specs.declared.LogQueue.TheVariants.{Append, Rewrite}
use Rattle.pipe_log.specs.declared.Location.{Location}
use Rattle.log_batch.specs.Seal.{block_check, sealed_length}
use Rattle.refusal.specs.declared.Reason.{Reason}
use Rattle.refusal.specs.declared.Reason.TheVariants.{BlockDiffers, SpanOutside}

-- the block that the queue names
abbrev pub named : LogQueue → Bor (List ℕ) → Bor (List ℕ) → Bor (List ℕ)
named Append append rewrite = append
named Rewrite append rewrite = rewrite

-- the block is to have the length `long`; the entry stands in its content
unfoldable pub entry_check : ℕ → ℕ → ℕ → List ℕ → Checked Reason
entry_check long offset len block = do
  (length block == long) else Err BlockDiffers
  u ← block_check block
  nat_le (offset + len) (sealed_length block) else Err SpanOutside
  fine

abbrev pub view_check : Location → List ℕ → Checked Reason
view_check row block = entry_check row.len row.entry_offset row.entry_len block

-- why a check failed
abbrev pub failed : Checked Reason → Option Reason
failed (Ok u) = None
failed (Err r) = Some r

-- the entry's part of the block; where a check failed an empty one, at the block's start
unfoldable pub viewed : Checked Reason → Location → Bor (List ℕ) → Part
viewed r row block = if_fine r (part_at block row.entry_offset row.entry_len) (front_of block 0)
