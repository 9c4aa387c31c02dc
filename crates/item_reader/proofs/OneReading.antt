-- Demand 3 of what a caller of the stepping reader gets: each reader that meets the contract of `open`, for any bytes under any signature.
-- Assumes nothing.
use Rattle.std.proofs.Common.{◌≡◌, ℕ, ◌↔◌, List, None, sym, refl, ap, ◌∙◌, Bor}
use Rattle.log_item.specs.declared.LogItem.{LogItem}
use Rattle.log_item.specs.declared.EntryIndex.{EntryIndex}
use Rattle.log_batch.specs.Reading.{Answer, accepted, rejected}
use Rattle.log_batch.specs.Body.{read_body}
use Rattle.log_batch.specs.Acceptable.{Acceptable}
use Rattle.log_batch.proofs.Bodies.{sound_body, complete_body}
use Rattle.item_reader.specs.declared.ItemReader.{ItemReader}
use Rattle.item_reader.specs.Cursor.{start_by, started}
use Rattle.item_reader.specs.Reader.{opened}
use Rattle.item_reader.specs.Stepping.{StepsThrough}
use Rattle.item_reader.proofs.Theorems.{same_items}

-- A reader without a refusal is that of an accepted body.
none_refused : (at : ℕ) (body : List ℕ) (signature : ℕ) (b : Answer) → read_body body signature ≡ b → (start_by at b).refusal ≡ None
    → (xs : List LogItem) × (rows : List EntryIndex) × (total : ℕ) × (bytes : List ℕ) × Acceptable body signature xs rows total bytes
none_refused at body signature (accepted xs rows u q) e z = let h = sound_body body signature e in (xs, rows, u, h.0, h.1)
none_refused at body signature (rejected r i) e z = absurd (cc)

-- `open`, whose contract is the equation (Determined.antt, opening): the reader's refusal is none exactly when the body is acceptable for some
-- list, and then it hands out the items and rows of that list, and the end.
pub body_opened : (body : Bor (List ℕ)) (signature : ℕ) (r : ItemReader) → r ≡ opened body signature →
    ((r.cursor.refusal ≡ None) ↔ ((xs : List LogItem) × (rows : List EntryIndex) × (total : ℕ) × (bytes : List ℕ) × Acceptable body.now signature xs rows total bytes))
    × ((xs : List LogItem) (rows : List EntryIndex) (total : ℕ) (bytes : List ℕ) → Acceptable body.now signature xs rows total bytes → StepsThrough r xs rows)
unfolding started
body_opened body signature r p = (
  (
    λ z. none_refused _ body.now signature (read_body body.now signature) refl (sym (ap (λ (x : ItemReader). x.cursor.refusal) p) ∙ z),
    λ h. rw (p, complete_body body.now signature h.4),
  ),
  λ xs rows total bytes h. rw p (same_items body signature (complete_body body.now signature h)),
)
