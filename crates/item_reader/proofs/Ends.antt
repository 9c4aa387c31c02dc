-- For whoever goes through a body: that a loop over steps ends, and one over rows.
-- Assumes nothing.
use Rattle.std.proofs.Common.{◌≡◌, ℕ, zero, suc, ◌+◌, ◌-◌, ◌<◌, Bool, true, false, cond, ltb, List, Option, Some, None, Result, Ok, Err, refl, ap, arith, ltb-true}
use Rattle.refusal.specs.declared.Reason.{Reason}
use Rattle.refusal.specs.declared.Refusal.{Refusal}
use Rattle.log_item.specs.Got.{Got, got, refused}
use Rattle.log_item.specs.Reading.{tail}
use Rattle.log_item.specs.Answers.{counted_item}
use Rattle.log_item.specs.declared.Form.TheVariants.{Any}
use Rattle.log_item.specs.declared.ItemRead.{ItemRead}
use Rattle.log_batch.specs.Seal.{sealed_part}
use Rattle.item_reader.specs.declared.Cursor.{Cursor}
use Rattle.item_reader.specs.declared.EntryRows.{EntryRows}
use Rattle.item_reader.specs.declared.Found.{Found}
use Rattle.item_reader.specs.declared.NextRow.{NextRow}
use Rattle.item_reader.specs.declared.Stepped.{Stepped}
use Rattle.item_reader.specs.Rows.{if_left, row_of_tail, next_row}
use Rattle.item_reader.specs.Steps.{stayed, step_over, unless_refused, stepped}

-- a cursor's step, by what its tests find
abbrev step_by : Cursor → Option Refusal → Bool → Got ItemRead → Stepped
step_by c why b g = unless_refused why c (cond b (step_over c g) (stayed c (Ok None)))

-- An item that is handed out was left, and the cursor then stands at the one after it.
pub item_passed : (body : List ℕ) (c : Cursor) {f : Found} → (stepped body c).answer ≡ Ok (Some f)
    → (c.item < c.count) × ((stepped body c).cursor.item ≡ c.item + 1)
unfolding stepped
item_passed body c {f} e = by_test c.refusal (ltb c.item c.count) refl (counted_item Any (sealed_part body) c.used c.total c.at) e
  where
    by_test : (why : Option Refusal) (b : Bool) → ltb c.item c.count ≡ b → (g : Got ItemRead) → (step_by c why b g).answer ≡ Ok (Some f)
        → (c.item < c.count) × ((step_by c why b g).cursor.item ≡ c.item + 1)
    by_test None true h (got x q) k = (ltb-true _ _ h, refl)
    by_test None true h (refused r) k = absurd (cc)
    by_test None false h g k = absurd (cc)
    by_test (Some r) b h g k = absurd (cc)

-- A row that is handed out leaves one less.
pub row_passed : (s : List ℕ) (r : EntryRows) {a : NextRow} → next_row s r ≡ Ok (Some a) → r.left ≡ a.rest.left + 1
unfolding next_row
row_passed s r {a} e = by_left r.left refl (tail Any s r.total r.at) e
  where
    left_of : Result (Option NextRow) Reason → ℕ
    left_of (Ok (Some b)) = b.rest.left
    left_of (Ok None) = 0
    left_of (Err reason) = 0

    by_left : (m : ℕ) → m ≡ r.left → (g : Got ℕ) → if_left m (row_of_tail r g) ≡ Ok (Some a) → r.left ≡ a.rest.left + 1
    by_left zero h g f = absurd (cc)
    by_left (suc m) h (got w q) f = let l : r.left - 1 ≡ a.rest.left = ap left_of f in omega (arith, h)
    by_left (suc m) h (refused k) f = absurd (cc)
