-- The entry total that a reading must come to: any, or the one wanted.
-- Assumes nothing.
use Rattle.std.specs.Prelude.{ℕ, ◌==◌, Option, Some, None}
use Rattle.refusal.specs.First.{◌else◌, ◌>>◌}
use Rattle.log_batch.specs.Reading.{Answer, accepted, rejected}
use Rattle.refusal.specs.declared.Reason.TheVariants.{BlockDiffers}

-- an answer whose entry total is not the one wanted is a 20
abbrev pub agreeing : Option ℕ → Answer → Answer
agreeing None a = a
agreeing (Some n) (accepted xs rows u q) = do
  (u == n) else rejected BlockDiffers 0
  accepted xs rows u q
agreeing (Some n) (rejected r i) = rejected r i
