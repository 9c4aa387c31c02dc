-- What writing bytes at a place of a lent buffer answers, and what the buffer holds afterwards.
-- Assumes nothing.
use Rattle.std.specs.Prelude.{ℕ, ◌+◌, Option, Some, None, cond, List, ◌++◌, leb, length, take, drop}

-- the place after the bytes, where they fit
abbrev pub wrote_at : List ℕ → ℕ → List ℕ → Option ℕ
wrote_at out at bs = cond (leb (at + length bs) (length out)) (Some (at + length bs)) None

-- the same, or the place itself where they do not fit
unfoldable pub next_at : List ℕ → ℕ → List ℕ → ℕ
next_at out at bs = cond (leb (at + length bs) (length out)) (at + length bs) at

-- the buffer with the bytes at the place, where they fit, else as it was
abbrev pub placed : List ℕ → ℕ → List ℕ → List ℕ
placed out at bs = cond (leb (at + length bs) (length out)) (take at out ++ bs ++ drop (at + length bs) out) out
