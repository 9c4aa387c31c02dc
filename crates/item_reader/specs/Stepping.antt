-- What a reader hands out when it is asked again and again, and its items' rows when they are.
-- Assumes nothing.
use Rattle.std.specs.Prelude.{◌≡◌, ℕ, List, [], ◌∷◌, ◌++◌, Some, None, Ok}
use Rattle.log_item.specs.declared.LogItem.{LogItem}
use Rattle.log_item.specs.declared.EntryIndex.{EntryIndex}
use Rattle.log_batch.specs.Seal.{sealed_part}
use Rattle.item_reader.specs.declared.EntryRows.{EntryRows}
use Rattle.item_reader.specs.declared.ItemReader.{ItemReader}
use Rattle.item_reader.specs.Rows.{next_row}
use Rattle.item_reader.specs.Reader.{step_from, after_call, nth_of}

-- Asked again and again from r on, there come these rows, and then the end.
pub data GoesThrough (s : List ℕ) : EntryRows → List EntryIndex → Type 0 where
  end : {r : EntryRows} → next_row s r ≡ Ok None → GoesThrough s r []
  then : {r rest : EntryRows} {x : EntryIndex} {rows : List EntryIndex} → next_row s r ≡ Ok (Some (record { row = x; rest = rest }))
      → GoesThrough s rest rows → GoesThrough s r (x ∷ rows)

-- Asked again and again, a reader hands out these items in this order, and then the end at every call. The rows are those of all its items.
pub data StepsThrough : ItemReader → List LogItem → List EntryIndex → Type 0 where
  end : {r : ItemReader} → ((k : ℕ) → nth_of r k ≡ Ok None) → StepsThrough r [] []
  then : {r : ItemReader} {x : LogItem} {p : EntryRows} {xs : List LogItem} {rows more : List EntryIndex}
      → (step_from r).answer ≡ Ok (Some (record { item = x; rows = p })) → GoesThrough (sealed_part r.body.now) p rows
      → StepsThrough (after_call r) xs more → StepsThrough r (x ∷ xs) (rows ++ more)
