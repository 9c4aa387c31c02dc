-- What digits spell in hex: a number, or bytes.
-- Assumes nothing.
use Rattle.std.specs.Prelude.{ℕ, ◌+◌, ◌-◌, ◌*◌, ◌^◌, cond, ◌&&◌, List, [], ◌∷◌, leb, length}

-- the value of an ASCII code: `0` to `9` and `a` to `f` are digits, and any other is worth 0
unfoldable pub digit_of : ℕ → ℕ
digit_of b =
    cond (leb 48 b && leb b 57) (b - 48)
    (cond (leb 97 b && leb b 102) (b - 87)
    0)

-- the number that digits spell, the highest first
unfoldable pub hex_number : List ℕ → ℕ
hex_number [] = 0
hex_number (d ∷ ds) = digit_of d * 16 ^ length ds + hex_number ds

-- the bytes that pairs of digits spell; a single one at the end spells none
unfoldable pub hex_bytes : List ℕ → List ℕ
hex_bytes [] = []
hex_bytes (d ∷ []) = []
hex_bytes (d ∷ e ∷ ds) = (digit_of d * 16 + digit_of e) ∷ hex_bytes ds
