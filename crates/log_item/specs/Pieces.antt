-- What reading a number, a byte and a span at a place answers. A refusal is the number of the first check that failed.
-- Assumes nothing.
use Rattle.std.specs.Prelude.{ℕ, ◌+◌, List, ltb, leb, eqb, length, get_or}
use Rattle.codec.specs.Number.{read_number, number_got}
use Rattle.codec.specs.Shortest.{shortest}
use Rattle.log_item.specs.Got.{Reading, done, upto, here, ◌>>=◌, ◌>>◌, ◌else◌}
use Rattle.log_item.specs.declared.Form.{Form}
use Rattle.log_item.specs.declared.Form.TheVariants.{Any, Plain}
use Rattle.log_item.specs.declared.Span.{Span}
use Rattle.refusal.specs.declared.Reason.TheVariants.{NotShortest, NumberBroken, SpanOutside}

-- a one-byte field
unfoldable pub byte : List ℕ → Reading ℕ
byte s = do
  p ← here
  ltb p (length s) else NumberBroken
  upto (p + 1) (get_or s p 0)

-- a number, however it is spelled
abbrev pub any_number : List ℕ → Reading ℕ
any_number s p = number_got (read_number s p)

-- a number in the form asked for. What Plain alone refuses has the number 8, which document 01 leaves free; no caller sees it, since going over an item has a case of its own there
unfoldable pub number : Form → List ℕ → Reading ℕ
number Any s = any_number s
number Plain s = do
  p ← here
  n ← any_number s
  q ← here
  eqb q (p + length (shortest n)) else NotShortest
  done n

-- a length, and as many bytes
unfoldable pub span : Form → List ℕ → Reading Span
span form s = do
  n ← number form s
  p ← here
  leb (p + n) (length s) else SpanOutside
  upto (p + n) (record { at = p; len = n })
