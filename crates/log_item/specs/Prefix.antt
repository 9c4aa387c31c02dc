-- The bytes of a span, whether they lie in the store, and the internal prefix of a key.
-- Assumes nothing.
use Rattle.std.specs.Prelude.{ℕ, ◌+◌, Bool, List, [], ◌∷◌, nat_eq, leb, length, take, drop}
use Rattle.std.specs.List.{starts_with}
use Rattle.log_item.specs.declared.Span.{Span}

-- INTERNAL_KEY_PREFIX of src/lib.rs
abbrev pub prefix : List ℕ
prefix = 0x5F ∷ 0x5F ∷ []

-- the bytes begin with the second list
abbrev pub begins : List ℕ → List ℕ → Bool
begins bs ps = starts_with nat_eq bs ps

-- the bytes of a span
abbrev pub bytes_of : List ℕ → Span → List ℕ
bytes_of s k = take k.len (drop k.at s)

-- a span lies in the bytes: it ends no later than they do
abbrev pub inside : List ℕ → Span → Bool
inside s k = leb (k.at + k.len) (length s)
