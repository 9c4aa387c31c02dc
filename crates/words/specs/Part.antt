-- A part of lent bytes: where it stands, and what stands there. That is all that a program can tell of a reference: the ghost name, which a part
-- gets anew at each call, is in no value of the machine.
-- Assumes nothing.
use Rattle.std.specs.Prelude.{ℕ, ◌+◌, List, take, drop}
use Rattle.std.specs.Borrow.{Bor}

-- its block of memory and how many bytes stand there before it; its bytes, as many as it is long
pub record Part : Type 0 where
  pub place : ℕ × ℕ
  pub bytes : List ℕ

-- what a reference shows
abbrev pub seen : Bor (List ℕ) → Part
seen r = record { place = r.ref_ptr; bytes = r.now }

-- of lent bytes n from the place a on, or as many as there are
abbrev pub part_at : Bor (List ℕ) → ℕ → ℕ → Part
part_at x a n = record { place = (x.ref_ptr.0, a + x.ref_ptr.1); bytes = take n (drop a x.now) }

-- the first n, or as many as there are
abbrev pub front_of : Bor (List ℕ) → ℕ → Part
front_of x n = record { place = x.ref_ptr; bytes = take n x.now }
