-- What reading a body without its footer answers: item count, items in order.
-- Assumes nothing.
use Rattle.std.specs.Prelude.{ℕ, zero, suc, ◌+◌, List, [], ◌∷◌, ◌++◌, length, nat_le}
use Rattle.log_item.specs.Got.{Got, got, refused, Reading, done, ◌>>=◌, ◌>>◌, ◌else◌}
use Rattle.log_item.specs.Reading.{Read, one_item}
use Rattle.log_item.specs.Pieces.{number}
use Rattle.log_item.specs.declared.Form.{Form}
use Rattle.log_item.specs.declared.LogItem.{LogItem}
use Rattle.log_item.specs.declared.EntryIndex.{EntryIndex}
use Rattle.refusal.specs.declared.Reason.{Reason}
use Rattle.refusal.specs.declared.Reason.TheVariants.{ItemsTooMany}

-- items, their rows, the entry total and the place after the last item; or why it is refused, and in which item
pub data Answer : Type 0 where
  accepted : List LogItem → List EntryIndex → ℕ → ℕ → Answer
  rejected : Reason → ℕ → Answer

-- an item and its rows, in front of what follows
abbrev pub before : LogItem → List EntryIndex → Answer → Answer
before x rows (accepted xs more u q) = accepted (x ∷ xs) (rows ++ more) u q
before x rows (rejected r i) = rejected r i

-- an item and what follows it; a refusal in the item has the item's number i
abbrev pub in_front : ℕ → Got Read → (Read → ℕ → Answer) → Answer
in_front i (got r q) f = before r.item r.rows (f r q)
in_front i (refused r) f = rejected r i

-- outside items a refusal has item 0
abbrev pub counted : Got ℕ → (ℕ → ℕ → Answer) → Answer
counted (got k q) f = f k q
counted (refused r) f = rejected r 0

module _ (form : Form) (s : List ℕ) where
  -- k items, the first of them with number i, with e entries and the total t before it
  unfoldable pub items : ℕ → ℕ → ℕ → ℕ → ℕ → Answer
  items zero i e t p = accepted [] [] t p
  items (suc k) i e t p = in_front i (one_item form s e t p) (λ r q. items k (i + 1) (e + length r.rows) r.total q)

  unfoldable pub count : Reading ℕ
  count = do
    k ← number form s
    nat_le k 256 else ItemsTooMany
    done k

  unfoldable pub read_items : Answer
  read_items = counted (count 0) (λ k q. items k 0 0 0 q)
