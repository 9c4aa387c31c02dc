-- `log_item::LogItem::encode` meets its contract.
-- Assumes nothing.
use Rattle.std.proofs.Common.{[], arith}
use Rattle.std.proofs.lemmas.Result.{err_from_is_err_and}
use Rattle.log_item.proofs.Written.{encode_refused, encode_inside, rows_lent, encode_over, tails_low, encode_short, head_room, tails_room, encode_done}
use Rattle.log_item.proofs.LogItem.encode.Goals as goal

pub returns-in_err-content_refusal : goal.returns-in_err-content_refusal
returns-in_err-content_refusal c =
    let p = err_from_is_err_and c.from_residual.result c.from_residual.ensures.1 in
    rw p.1 (encode_refused _ _ _ _ _ _ (grind arith))

pub slice_bounds-rows-end : goal.slice_bounds-rows-end
slice_bounds-rows-end c = let a = c.args in rw c.entries.ensures (rows_lent a.store.now a.self a.lengths.now 0 [] 0 (grind arith))

pub returns-in_err-len : goal.returns-in_err-len
returns-in_err-len c =
    let p = err_from_is_err_and c.from_residual-in_err-len.result c.from_residual-in_err-len.ensures.1 in
    rw p.1 (encode_over _ _ _ _ _ _ (grind arith) (grind arith))

pub returns-in_err-piece_refusal : goal.returns-in_err-piece_refusal
returns-in_err-piece_refusal c =
    let p = err_from_is_err_and c.from_residual-in_err-piece_refusal.result c.from_residual-in_err-piece_refusal.ensures.1 in
    let a = c.args in
    rw p.1
    (encode_short a.store.now a.self a.lengths.now a.total a.out.now a.at (grind arith) c.in_ok-len.len c.in_ok-len.after (grind arith) c.saturating_add.result (grind arith)
    (omega arith) (grind arith))

pub put_head-tails-requires-clause-lies : goal.put_head-tails-requires-clause-lies
put_head-tails-requires-clause-lies c = let a = c.args in encode_inside a.store.now a.self a.lengths.now 0 [] 0 (grind arith)

pub put_head-tails-requires-clause-room : goal.put_head-tails-requires-clause-room
put_head-tails-requires-clause-room c =
    let a = c.args in
    head_room a.store.now a.self a.lengths.now a.total a.out.now a.at (grind arith) c.in_ok-len.len c.in_ok-len.after (grind arith) c.saturating_add.result (grind arith)
    (omega arith) (grind arith)

pub put_tails-next-requires-clause-low : goal.put_tails-next-requires-clause-low
put_tails-next-requires-clause-low c =
    let a = c.args in
    rw c.entries.ensures (tails_low a.store.now a.self a.lengths.now a.total [] 0 (grind arith) c.in_ok-len.len c.in_ok-len.after (grind arith))

pub put_tails-next-requires-clause-room : goal.put_tails-next-requires-clause-room
put_tails-next-requires-clause-room c =
    let a = c.args in
    rw c.entries.ensures
    (tails_room a.store.now a.self a.lengths.now a.total a.out.now a.at (grind arith) c.in_ok-len.len c.in_ok-len.after (grind arith) c.saturating_add.result (grind arith)
    (omega arith) (grind arith) c.put_head-tails.ensures)

pub returns : goal.returns
returns c =
    let a = c.args in
    encode_done a.store.now a.self a.lengths.now a.total a.out.now a.at (grind arith) c.in_ok-len.len c.in_ok-len.after (grind arith) c.saturating_add.result (grind arith)
    (omega arith) (grind arith) c.put_head-tails.ensures (rw c.entries.ensures at c.put_tails-next.ensures)
