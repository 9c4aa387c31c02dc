-- What is spelled where an item is read.
-- Assumes nothing.
use Rattle.std.specs.Prelude.{ℕ, ◌+◌, ◌≤◌, List, length}
use Rattle.words.specs.Byte.{Bytes}
use Rattle.log_item.specs.declared.Form.{Form}
use Rattle.log_item.specs.declared.Form.TheVariants.{Any, Plain}
use Rattle.log_item.specs.Reading.{Read}
use Rattle.log_item.specs.Each.{Each}
use Rattle.log_item.specs.Limits.{RowFits}
use Rattle.log_item.specs.Spelling.{NumberIn, OneItem}

-- What a form asks of the list that is read: where the shortest spelling alone is taken, the list is of bytes.
abbrev pub Asks : Form → List ℕ → Type 0
Asks Any s = Unit {0}
Asks Plain s = Bytes s

-- What is spelled where an item is read, with e entries and the total t before it: the item, its rows within the limits, and the total after it.
pub record ItemSpelled (form : Form) (e t p : ℕ) (r : Read) (x : List ℕ) : Type 0 where
  pub spelled : OneItem (NumberIn form) r.item r.rows t r.total p x
  pub each : Each RowFits r.rows
  pub few : e + length r.rows ≤ 1024
