-- What is returned for what a check finds, and for what stepping counts: a number, and the words of the answer.
-- Assumes nothing.
use Rattle.std.specs.Prelude.{[], ◌∷◌, Result, Ok, Err}
use Rattle.refusal.specs.declared.Refusal.{Refusal}
use Rattle.item_row.specs.Reply.{Reply, reply}
use Rattle.log_batch.specs.declared.BodyCheck.{BodyCheck}

-- how many items
abbrev pub count_reply : Result BodyCheck Refusal → Reply
count_reply (Ok check) = reply 0 (check.items ∷ [])
count_reply (Err r) = reply r.number (0 ∷ [])

-- how many items and entries
abbrev pub steps_reply : Result BodyCheck Refusal → Reply
steps_reply (Ok check) = reply 0 (check.items ∷ check.entries ∷ [])
steps_reply (Err r) = reply r.number (0 ∷ 0 ∷ [])
