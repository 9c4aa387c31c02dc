-- What the readings without a table answer: how much there is, and whether each number has its shortest spelling.
-- Assumes nothing.
use Rattle.std.specs.Prelude.{ℕ, Bool, true, false, List, length, Result, Ok, Err}
use Rattle.log_item.specs.declared.Form.TheVariants.{Plain}
use Rattle.refusal.specs.declared.Refusal.{Refusal}
use Rattle.refusal.specs.Number.{refusal_of}
use Rattle.log_batch.specs.declared.BodyCheck.{BodyCheck}
use Rattle.log_batch.specs.Reading.{Answer, accepted, rejected, read_items}
use Rattle.log_batch.specs.Seal.{sealed_part}
use Rattle.log_batch.specs.Body.{read_body}

-- how many items and entries, the entry total and the place after the last item
abbrev pub check_of : Answer → Result BodyCheck Refusal
check_of (accepted xs rows u q) = Ok (record { items = length xs; entries = length rows; total = u; next = q })
check_of (rejected r i) = Err (refusal_of r i)

-- the reading that takes shortest numbers alone: yes where it accepts
abbrev pub yes_no : Answer → Bool
yes_no (accepted xs rows u q) = true
yes_no (rejected r i) = false

-- asked of an accepted body; a refused one gets its refusal
abbrev pub plain_of : Answer → Answer → Result Bool Refusal
plain_of (accepted xs rows u q) strict = Ok (yes_no strict)
plain_of (rejected r i) strict = Err (refusal_of r i)

unfoldable pub plain_body : List ℕ → ℕ → Result Bool Refusal
plain_body body signature = plain_of (read_body body signature) (read_items Plain (sealed_part body))
