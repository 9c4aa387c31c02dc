-- A piece with the place after it, or why it is refused; and each answer of this crate in these words.
-- Assumes nothing.
use Rattle.std.specs.Prelude.{ℕ, Option, Some, None, Result, Ok, Err}
use Rattle.refusal.specs.declared.Reason.{Reason}
use Rattle.refusal.specs.declared.Reason.TheVariants.{HeaderShort, NoContent, OutputShort}
use Rattle.words.specs.declared.Piece.{Piece}

pub data Got (A : Type 0) : Type 0 where
  got : A → ℕ → Got A
  refused : Reason → Got A

abbrev pub got_of : {A : Type 0} → Result (Piece A) Reason → Got A
got_of (Ok x) = got x.value x.next
got_of (Err r) = refused r

-- the bytes end inside or before a word of a header: 1
abbrev pub u64_got : Option (Piece ℕ) → Got ℕ
u64_got (Some x) = got x.value x.next
u64_got None = refused HeaderShort

-- or a checksum: 5
abbrev pub u32_got : Option (Piece ℕ) → Got ℕ
u32_got (Some x) = got x.value x.next
u32_got None = refused NoContent

-- no room for what is written: 21
abbrev pub wrote_got : Option ℕ → Got (Unit {0})
wrote_got (Some q) = got tt q
wrote_got None = refused OutputShort
