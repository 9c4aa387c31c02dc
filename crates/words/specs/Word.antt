-- Words of a fixed number of bytes: big-endian ones of 64 bits and little-endian ones of 32.
-- Assumes nothing.
use Rattle.std.specs.Prelude.{ℕ, zero, suc, ◌+◌, ◌*◌, ◌/◌, ◌%◌, ◌^◌, Option, Some, None, cond, List, [], ◌∷◌, leb, length, take, drop}
use Rattle.words.specs.declared.Piece.{Piece}

-- a piece of bytes, and the place after it
abbrev pub piece : {A : Type 0} → A → ℕ → Piece A
piece x next = record { value = x; next = next }

-- the word that bytes spell, lowest byte first
unfoldable pub little_endian : List ℕ → ℕ
little_endian [] = 0
little_endian (b ∷ bs) = b + 256 * little_endian bs

-- the word that bytes spell, highest byte first
unfoldable pub big_endian : List ℕ → ℕ
big_endian [] = 0
big_endian (b ∷ bs) = b * 256 ^ length bs + big_endian bs

-- a word in k bytes, lowest first
unfoldable pub little_endian_bytes : ℕ → ℕ → List ℕ
little_endian_bytes zero w = []
little_endian_bytes (suc k) w = w % 256 ∷ little_endian_bytes k (w / 256)

-- a word in k bytes, highest first
unfoldable pub big_endian_bytes : ℕ → ℕ → List ℕ
big_endian_bytes zero w = []
big_endian_bytes (suc k) w = w / 256 ^ k % 256 ∷ big_endian_bytes k w

-- the eight bytes from the place `at` of s, big-endian, where there are eight
unfoldable pub read_u64 : List ℕ → ℕ → Option (Piece ℕ)
read_u64 s at = cond (leb (at + 8) (length s)) (Some (piece (big_endian (take 8 (drop at s))) (at + 8))) None

-- the four bytes from the place `at` of s, little-endian, where there are four
unfoldable pub read_u32 : List ℕ → ℕ → Option (Piece ℕ)
read_u32 s at = cond (leb (at + 4) (length s)) (Some (piece (little_endian (take 4 (drop at s))) (at + 4))) None
