-- What a caller outside gets back: a refusal's number, or 0, and the words of its answer.
-- Assumes nothing.
use Rattle.std.specs.Prelude.{ℕ, List}

pub data Reply : Type 0 where
  reply : (number : ℕ) (words : List ℕ) → Reply
