-- The spelling of a number that the writer uses, and its length as document 01 states it.
-- Assumes nothing.
use Rattle.std.specs.Prelude.{ℕ, zero, suc, ◌+◌, ◌-◌, ◌/◌, ◌%◌, cond, List, [], ◌∷◌, ltb}
use Rattle.std.specs.Int.Bits.{bit_or}
use Rattle.std.specs.Int.Count.{count_leading_zeros}

-- seven bits a byte, lowest first, until what is left is below 128; room more bytes may follow the first
unfoldable pub spell : ℕ → ℕ → List ℕ
spell zero n = n ∷ []
spell (suc room) n = cond (ltb n 128) (n ∷ []) ((128 + n % 128) ∷ spell room (n / 128))

unfoldable pub shortest : ℕ → List ℕ
shortest n = spell 9 n

-- 70 minus the leading zeros of (number OR 1), divided by 7, rounded down
abbrev pub stated_length : ℕ → ℕ
stated_length n = (70 - count_leading_zeros 64 (bit_or n 1)) / 7
