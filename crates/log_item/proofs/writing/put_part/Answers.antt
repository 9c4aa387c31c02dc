-- `log_item::writing::put_part` meets its contract.
-- Assumes nothing.
use Rattle.words.proofs.Writing.{of_bytes, next_of, place_of}
use Rattle.log_item.proofs.Lengths.{part_named}
use Rattle.log_item.proofs.Stores.{stored_at}
use Rattle.log_item.proofs.writing.put_part.Goals as goal

pub returns-in-Some : goal.returns-in-Some
returns-in-Some c =
    let a = c.args in
    let w = of_bytes a.out.now a.at _ _ (part_named a.store.now a.span) c.write_bytes.ensures in
    stored_at c.requires.room (next_of _ _ _ w.0 c.in-Some.is, w.1)

pub returns-in-None : goal.returns-in-None
returns-in-None c =
    let a = c.args in
    let w = of_bytes a.out.now a.at _ _ (part_named a.store.now a.span) c.write_bytes.ensures in
    stored_at c.requires.room (place_of _ _ _ w.0 c.in-None.is, w.1)
