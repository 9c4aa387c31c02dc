-- Reading a piece from a place on: the piece with the place after it, or the first check that failed.
-- A definition is a list of steps; a line `test else EntriesTooMany` is one of them, and refuses for that reason where the test fails.
-- Assumes nothing.
use Rattle.std.specs.Prelude.{ℕ, true, false}
use Rattle.refusal.specs.First.{Check}
use Rattle.refusal.specs.declared.Reason.{Reason}
pub use Rattle.refusal.specs.First.{◌else◌}
pub use Rattle.words.specs.Got.{Got, got, refused}

-- what reads a piece from a place on
abbrev pub Reading : Type 0 → Type 0
Reading A = ℕ → Got A

module _ {A : Type 0} where
  -- a piece of no more bytes
  abbrev pub done : A → Reading A
  done x = λ p. got x p

  -- a piece that ends at the place q
  abbrev pub upto : ℕ → A → Reading A
  upto q x = λ p. got x q

  abbrev pub refuse : Reason → Reading A
  refuse r = λ p. refused r

-- the place itself
abbrev pub here : Reading ℕ
here = λ p. got p p

module _ {A B : Type 0} where
  abbrev pub bind : Got A → (A → Reading B) → Got B
  bind (got x q) f = f x q
  bind (refused r) f = refused r

  abbrev pub ◌>>=◌ : Reading A → (A → Reading B) → Reading B
  ◌>>=◌ m f = λ p. bind (m p) f

abbrev pub ◌>>◌ : {A : Type 0} → Check Reason → Reading A → Reading A
◌>>◌ (◌else◌ true r) m = m
◌>>◌ (◌else◌ false r) m = refuse r
