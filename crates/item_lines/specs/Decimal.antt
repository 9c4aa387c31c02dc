-- A number in ten, as text.
-- Assumes nothing.
use Rattle.std.specs.Prelude.{ℕ, zero, suc, ◌+◌, ◌-◌, ◌*◌, ◌/◌, ◌%◌, cond, List, [], ◌∷◌, ◌++◌, ltb}

-- the ASCII codes of its digits: the last is what is left by 10, and before it stand those of n / 10, unless n is below 10; at most one more than room
unfoldable pub digits : ℕ → ℕ → List ℕ
digits zero n = (48 + n) ∷ []
digits (suc room) n = cond (ltb n 10) ((48 + n) ∷ []) (digits room (n / 10) ++ ((48 + n % 10) ∷ []))

-- a number of 64 bits has no more than 20
unfoldable pub decimal : ℕ → List ℕ
decimal n = digits 19 n

-- the number that digits spell, the highest first, behind those of n
unfoldable pub spelled : ℕ → List ℕ → ℕ
spelled n [] = n
spelled n (d ∷ ds) = spelled (n * 10 + (d - 48)) ds
