-- What a step comes to: a law for each way out of it that opened readers take.
-- Assumes nothing.
use Rattle.std.proofs.Common.{◌≡◌, ℕ, ◌<◌, ◌≤◌, List, Some, None, Ok, Err, le-ltb, lt-ltb}
use Rattle.refusal.specs.declared.Refusal.{Refusal}
use Rattle.log_item.specs.Got.{got}
use Rattle.log_item.specs.Answers.{counted_item}
use Rattle.log_item.specs.declared.Form.TheVariants.{Any}
use Rattle.log_item.specs.declared.ItemRead.{ItemRead}
use Rattle.log_batch.specs.Seal.{sealed_part}
use Rattle.item_reader.specs.declared.Cursor.{Cursor}
use Rattle.item_reader.specs.Steps.{stayed, step_over, stepped}

module _ (body : List ℕ) (c : Cursor) where
  pub step_refused : {r : Refusal} → c.refusal ≡ Some r → stepped body c ≡ stayed c (Err r)
  unfolding stepped
  step_refused e = rw e

  module _ (none : c.refusal ≡ None) where
    pub step_end : c.count ≤ c.item → stepped body c ≡ stayed c (Ok None)
    unfolding stepped
    step_end h = rw (none, le-ltb _ _ h)

    pub step_item : c.item < c.count → {x : ItemRead} {q : ℕ} → counted_item Any (sealed_part body) c.used c.total c.at ≡ got x q
        → stepped body c ≡ step_over c (got x q)
    unfolding stepped
    step_item h e = rw (none, lt-ltb _ _ h, e)
