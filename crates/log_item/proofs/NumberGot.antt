-- What holds of each number that was got.
-- Assumes nothing.
use Prim.Native.Nat.{ℕ, ◌+◌, ◌≤◌, ◌<◌}
use mathlib.Core.Path.{◌≡◌, refl}
use mathlib.Core.List.{List}
use lib.ListN.{length}
use Rattle.std.specs.Prelude.{Result, Ok, Err}
use Rattle.codec.specs.Shortest.{shortest}
use Rattle.codec.specs.Number.{read_number, number_got}
use Rattle.codec.specs.declared.NumberError.{NumberError}
use Rattle.codec.proofs.Theorems.{read_moves}
use Rattle.words.specs.declared.Piece.{Piece}
use Rattle.words.specs.Word.{piece}
use Rattle.log_item.specs.Got.{got, done}
use Rattle.log_item.specs.Pieces.{number}
use Rattle.log_item.specs.declared.Form.{Form}
use Rattle.log_item.specs.declared.Form.TheVariants.{Any, Plain}
use Rattle.log_item.proofs.Holds.{Holds, holds, refuses, after, equal, of_got}
use Rattle.refusal.specs.declared.Reason.TheVariants.{NotShortest}

-- the piece at p has a byte at least, and ends in the bytes
abbrev Inside : List ℕ → ℕ → ℕ → ℕ → Type 0
Inside s p n q = (p < q) × (q ≤ length s)

module _ (s : List ℕ) (p : ℕ) where
  any_holds : Holds (Inside s p) (number_got (read_number s p))
  any_holds = go (read_number s p) (read_moves s p)
    where
      go : (r : Result (Piece ℕ) NumberError) → ((n q : ℕ) → r ≡ Ok (piece n q) → (p < q) × (q ≤ length s)) → Holds (Inside s p) (number_got r)
      go (Ok x) h = holds (h x.value x.next refl)
      go (Err e) h = refuses

  number_holds : (form : Form) → Holds (Inside s p) (number form s p)
  unfolding number
  number_holds Any = any_holds
  number_holds Plain = after any_holds λ n q h. equal q (p + length (shortest n)) NotShortest (done n) q (λ _. holds h)

module _ (form : Form) (s : List ℕ) where
  -- A number has a byte at least, and ends in the bytes.
  pub number_inside : (p : ℕ) {n q : ℕ} → number form s p ≡ got n q → (p < q) × (q ≤ length s)
  number_inside p e = of_got (number_holds s p form) e
