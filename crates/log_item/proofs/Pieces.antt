-- Which refusal reading a byte, a number and a span gives, and where; and what a number read in any spelling is in the shortest alone.
-- Assumes nothing.
use Prim.Native.Nat.{ℕ, ◌+◌, ◌-◌, ◌≤◌, ◌<◌}
use mathlib.Core.Path.{◌≡◌}
use mathlib.Core.List.{List}
use native.Mathlib.Omega.{arith}
use borrow.Author.Tests.{le-ltb, lt-leb, eq-eqb, ne_eqb}
use lib.ListN.{length}
use Rattle.std.specs.Prelude.{Err}
use Rattle.codec.specs.Number.{read_number}
use Rattle.codec.specs.Shortest.{shortest}
use Rattle.codec.specs.declared.NumberError.{NumberError}
use Rattle.log_item.specs.Got.{got, refused}
use Rattle.log_item.specs.Pieces.{byte, number, span}
use Rattle.log_item.specs.declared.Form.{Form}
use Rattle.log_item.specs.declared.Form.TheVariants.{Any, Plain}
use Rattle.log_item.proofs.NumberGot.{number_inside}
use Rattle.refusal.specs.declared.Reason.TheVariants.{NotShortest, NumberBroken, SpanOutside}

-- No byte is left.
pub byte_out : (s : List ℕ) (p : ℕ) → length s ≤ p → refused NumberBroken ≡ byte s p
unfolding byte
byte_out s p h = rw (le-ltb _ _ h)

-- The bytes end inside or before a number, or its tenth byte is above 1.
pub number_broken : (s : List ℕ) (p : ℕ) {e : NumberError} → read_number s p ≡ Err e → refused NumberBroken ≡ number Any s p
unfolding number
number_broken s p k = rw k

-- A span runs past the bytes.
pub span_outside : (form : Form) (s : List ℕ) (p : ℕ) {n q : ℕ} → number form s p ≡ got n q → length s < q + n → refused SpanOutside ≡ span form s p
unfolding span
span_outside form s p e h = rw (e, lt-leb _ _ h)

-- A number that was read in any spelling, and whose spelling has l bytes where the shortest has so many, or has not.
module _ {form : Form} (s : List ℕ) (p : ℕ) {n q : ℕ} (e : number Any s p ≡ got n q) {l : ℕ} (f : form ≡ Plain) (k : l ≡ length (shortest n)) where
  pub number_plain : q - p ≡ l → got n q ≡ number form s p
  unfolding number
  number_plain d =
      let m = number_inside Any s p e in
      let same : q ≡ p + length (shortest n) = omega arith in
      rw (f, e, eq-eqb _ _ same)

  pub number_padded : (q - p ≡ l → ⊥) → refused NotShortest ≡ number form s p
  unfolding number
  number_padded d =
      let m = number_inside Any s p e in
      let other : q ≡ p + length (shortest n) → ⊥ = λ same. d (omega arith) in
      rw (f, e, ne_eqb _ _ other)
