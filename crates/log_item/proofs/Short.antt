-- A number of two or three bytes, read in the form Any.
-- Assumes nothing.
use Prim.Native.Nat.{ℕ, ◌+◌, ◌-◌, ◌*◌, ◌^◌, ◌%◌, ◌≤◌, ◌<◌}
use mathlib.Core.Path.{◌≡◌, ◌∙◌}
use mathlib.Core.List.{List}
use native.Mathlib.Omega.{arith}
use native.Mathlib.Nat.{add-zero}
use lib.ListN.{length, get_or}
use lib.Seq.{get_or-drop, get_or-take}
use Rattle.std.specs.List.{slice_range}
use Rattle.std.specs.Prelude.{Ok}
use Rattle.words.specs.Word.{piece}
use Rattle.codec.specs.Number.{NumberRead, read_number}
use Rattle.codec.proofs.Reading.{first_long, first_two, turn_last, turn_more}
use Rattle.log_item.specs.Got.{got}
use Rattle.log_item.specs.Pieces.{number}
use Rattle.log_item.specs.declared.Form.{Form}
use Rattle.log_item.specs.declared.Form.TheVariants.{Any}

-- Where the part of a list from a place on has three bytes or more, these stand in the list.
part_byte : (s : List ℕ) (at k : ℕ) → k + at < length s → get_or (slice_range s at (length s)) k 0 ≡ get_or s (at + k) 0
part_byte s at k h = let j : k < length s - at = omega arith in rw (get_or-take, get_or-drop)

module _ {form : Form} (any : form ≡ Any) (s : List ℕ) (at : ℕ) {part : List ℕ} (e : part ≡ slice_range s at (length s)) (all : length part + at ≡ length s)
    (room : 3 ≤ length part) {a b : ℕ} (ea : a ≡ get_or part 0 0) (eb : b ≡ get_or part 1 0) (more : 128 ≤ a) where
  byte_at : (k : ℕ) → k < 3 → get_or part k 0 ≡ get_or s (at + k) 0
  byte_at k h = rw e (part_byte s at k (omega arith))

  first : a ≡ get_or s at 0
  first = rw add-zero at (ea ∙ byte_at 0 (omega arith))

  taken : {n q : ℕ} → ◌≡◌ {A = NumberRead} (Ok (piece n q)) (read_number s at) → got n q ≡ number form s at
  unfolding number
  taken k = rw (any, ← k)

  pub two : b < 128 → got (a - 128 + (b * 2 ^ 7) % 2 ^ 64) (at + 2) ≡ number form s at
  two t = taken (first_two s at a b (omega arith) first (eb ∙ byte_at 1 (omega arith)) more t)

  pub three : {c : ℕ} → c ≡ get_or part 2 0 → 128 ≤ b → get_or s (at + 1) 0 < 256 → c < 128 → got (a - 128 + ((b - 128) * 2 ^ 7) % 2 ^ 64 + (c * 2 ^ 14) % 2 ^ 64) (at + 3) ≡ number form s at
  three {c} ec h u t =
      let p : at + 2 + 1 ≡ at + 3 = omega arith in
      let k = turn_more s at _ 1 (a - 128) (first_long s at a (omega arith) first more) b (eb ∙ byte_at 1 (omega arith)) (omega arith) (omega arith) h (omega (arith, eb ∙ byte_at 1 (omega arith))) in
      taken (rw p at (turn_last s at _ 2 (a - 128 + ((b - 128) * 2 ^ 7) % 2 ^ 64) k c (ec ∙ byte_at 2 (omega arith)) (omega arith) (omega arith) t))
