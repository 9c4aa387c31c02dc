-- Where bytes stand in a list.
-- Assumes nothing.
use Rattle.std.specs.Prelude.{ℕ, ◌+◌, ◌≡◌, List, ◌++◌, length, drop}

-- In s, the bytes stand from the place p up to the place q.
pub record At (s : List ℕ) (p q : ℕ) (bytes : List ℕ) : Type 0 where
  pub stand : drop p s ≡ bytes ++ drop q s
  pub ends : q ≡ p + length bytes

-- Some bytes with a property stand in s from p up to q.
pub record Found (s : List ℕ) (P : List ℕ → Type 0) (p q : ℕ) : Type 0 where
  pub bytes : List ℕ
  pub at : At s p q bytes
  pub has : P bytes
