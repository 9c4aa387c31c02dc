-- A law of replies, for every crate that answers a caller outside by one.
-- Assumes nothing.
use Prim.Native.Nat.{ℕ}
use mathlib.Core.Path.{◌≡◌}
use mathlib.Core.List.{List}
use Rattle.item_row.specs.Reply.{Reply, reply}

-- A reply has one number and one list of words.
pub same : {m n : ℕ} {v w : List ℕ} {a : Reply} → reply m v ≡ a → reply n w ≡ a → (m ≡ n) × (v ≡ w)
same e h = (cc, cc)
