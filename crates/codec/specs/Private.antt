-- What the contracts of private functions cite: this file serves them alone, and no public contract.
-- Assumes nothing.
use Rattle.std.specs.Prelude.{ℕ, ◌+◌, ◌-◌, ◌*◌, ◌^◌, ◌<◌, ◌≡◌, Ok, Err, List, drop}
use Rattle.words.specs.Word.{piece}
use Rattle.codec.specs.Number.{NumberRead, read_from, read_number}

-- the number v, below a number that starts at bit k
abbrev pub onto : ℕ → ℕ → NumberRead → NumberRead
onto v k (Ok n) = Ok (piece (v + n.value * 2 ^ k) n.next)
onto v k (Err e) = Err e

-- what is left to read after j bytes of the number at a place
unfoldable pub left_after : List ℕ → ℕ → ℕ → NumberRead
left_after s at j = read_from (9 - j) (drop (at + j) s) (at + j)

-- j bytes are read and none of them was the last: v is what they say, and the whole answer is v below what is left
pub record SoFar (s : List ℕ) (at j v : ℕ) : Type 0 where
  pub small : v < 2 ^ (7 * j)
  pub whole : read_number s at ≡ onto v (7 * j) (left_after s at j)
