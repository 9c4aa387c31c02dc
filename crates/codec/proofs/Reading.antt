-- Reading a number byte by byte: what is left to read after j bytes, and what each next byte does to it.
-- Assumes nothing.
use Prim.Native.Nat.{ℕ, zero, suc, ◌+◌, ◌-◌, ◌*◌, ◌%◌, ◌^◌, ◌≤◌, ◌<◌}
use mathlib.Core.Path.{◌≡◌, refl, sym, ap, ◌∙◌}
use mathlib.Core.List.{List, []}
use native.Mathlib.Omega.{arith}
use native.Mathlib.Nat.{lt_of_lt_of_le, add-mul, mul_comm, mul_left_comm}
use native.Mathlib.Numerals.{add-one}
use lib.ListN.{length, get_or, drop, drop_of_length-le}
use lib.Seq.{drop-cons}
use lib.Pow.{pow-add, pow_mono, shl_exact}
use lib.Arith.{digits_lt}
use borrow.Author.Tests.{lt-ltb, le-ltb, le-leb, lt-leb}
use Rattle.std.specs.Prelude.{Ok, Err}
use Rattle.words.specs.Word.{piece}
use Rattle.codec.specs.declared.NumberError.TheVariants.{Eof, Overflow}
use Rattle.codec.specs.Number.{NumberRead, under, read_from, read_number}
use Rattle.codec.specs.Private.{onto, left_after, SoFar}

onto_under : (v k b : ℕ) (r : NumberRead) → onto v k (under b r) ≡ onto (v + (b - 128) * 2 ^ k) (k + 7) r
onto_under v k b (Ok n) =
    let e : (b - 128 + 128 * n.value) * 2 ^ k ≡ (b - 128) * 2 ^ k + (128 * n.value) * 2 ^ k = add-mul (b - 128) (128 * n.value) (2 ^ k) in
    let p : n.value * 2 ^ (k + 7) ≡ (128 * n.value) * 2 ^ k =
    ap (λ (x : ℕ). n.value * x) (pow-add 2 k 7) ∙ mul_left_comm n.value (2 ^ k) 128 ∙ mul_comm (2 ^ k) (n.value * 128) ∙ ap (λ (x : ℕ). x * 2 ^ k) (mul_comm n.value 128) in
    ap (λ (x : ℕ). Ok (piece x n.next)) (omega arith)
onto_under v k b (Err e) = refl

step_more : (room : ℕ) (s : List ℕ) (p : ℕ) → p < length s → 128 ≤ get_or s p 0
    → read_from (suc room) (drop p s) p ≡ under (get_or s p 0) (read_from room (drop (suc p) s) (suc p))
unfolding read_from
step_more room s p h t = rw (drop-cons s p 0 h) (simp (le-ltb _ _ t))

step_last : (room : ℕ) (s : List ℕ) (p : ℕ) → p < length s → get_or s p 0 < 128 → read_from (suc room) (drop p s) p ≡ Ok (piece (get_or s p 0) (suc p))
unfolding read_from
step_last room s p h t = rw (drop-cons s p 0 h) (simp (lt-ltb _ _ t))

empty : (room p : ℕ) → read_from room [] p ≡ Err Eof
unfolding read_from
empty zero p = refl
empty (suc room) p = refl

-- no byte is left
pub left_short : (s : List ℕ) (at j : ℕ) → length s ≤ at + j → left_after s at j ≡ Err Eof
unfolding left_after
left_short s at j h = rw (drop_of_length-le s h) (empty (9 - j) (at + j))

-- the next byte has its top bit set
pub left_more : (s : List ℕ) (at j v : ℕ) → j < 9 → at + j < length s → 128 ≤ get_or s (at + j) 0
    → onto v (7 * j) (left_after s at j) ≡ onto (v + (get_or s (at + j) 0 - 128) * 2 ^ (7 * j)) (7 * (j + 1)) (left_after s at (j + 1))
unfolding left_after
left_more s at j v h hl t =
    let room : 9 - j ≡ suc (9 - (j + 1)) = omega arith in
    let place : suc (at + j) ≡ at + (j + 1) = omega arith in
    let bits : 7 * j + 7 ≡ 7 * (j + 1) = omega arith in
    rw (room, step_more (9 - (j + 1)) s (at + j) hl t, place, onto_under v (7 * j) (get_or s (at + j) 0), bits)

-- the next byte ends the number
pub left_last : (s : List ℕ) (at j v : ℕ) → j < 9 → at + j < length s → get_or s (at + j) 0 < 128
    → onto v (7 * j) (left_after s at j) ≡ Ok (piece (v + get_or s (at + j) 0 * 2 ^ (7 * j)) (at + j + 1))
unfolding left_after
left_last s at j v h hl t =
    let room : 9 - j ≡ suc (9 - (j + 1)) = omega arith in
    rw (room, step_last (9 - (j + 1)) s (at + j) hl t, ← add-one (at + j))

-- the tenth byte
pub left_tenth : (s : List ℕ) (at v : ℕ) → at + 9 < length s → get_or s (at + 9) 0 ≤ 1
    → onto v 63 (left_after s at 9) ≡ Ok (piece (v + get_or s (at + 9) 0 * 2 ^ 63) (at + 10))
unfolding left_after read_from
left_tenth s at v hl t =
    let place : suc (at + 9) ≡ at + 10 = omega arith in
    rw (drop-cons s (at + 9) 0 hl) (simp (le-leb _ _ t, place))

pub left_over : (s : List ℕ) (at v : ℕ) → at + 9 < length s → 1 < get_or s (at + 9) 0 → onto v 63 (left_after s at 9) ≡ Err Overflow
unfolding left_after read_from
left_over s at v hl t = rw (drop-cons s (at + 9) 0 hl) (simp (lt-leb _ _ t))

under_onto : (b : ℕ) (r : NumberRead) → under b r ≡ onto (b - 128) 7 r
under_onto b (Ok n) = ap (λ (x : ℕ). Ok (piece (b - 128 + x) n.next)) (mul_comm 128 n.value)
under_onto b (Err e) = refl

-- the first byte
pub first_short : (s : List ℕ) (at : ℕ) → length s ≤ at → read_number s at ≡ Err Eof
unfolding read_number
first_short s at h = rw (drop_of_length-le s h) (empty 9 at)

pub first_last : (s : List ℕ) (at : ℕ) → at < length s → get_or s at 0 < 128 → read_number s at ≡ Ok (piece (get_or s at 0) (at + 1))
unfolding read_number
first_last s at h t = rw (add-one) (step_last 8 s at h t)

pub first_more : (s : List ℕ) (at : ℕ) → at < length s → 128 ≤ get_or s at 0 → read_number s at ≡ onto (get_or s at 0 - 128) 7 (left_after s at 1)
unfolding read_number left_after
first_more s at h t = rw (add-one, step_more 8 s at h t) (under_onto (get_or s at 0) (read_from 8 (drop (suc at) s) (suc at)))

-- ---- the same, as the code computes it

-- a digit shifted to its place loses no bit
exact : (b j : ℕ) → j < 9 → b < 128 → (b * 2 ^ (7 * j)) % 2 ^ 64 ≡ b * 2 ^ (7 * j)
exact b j h t = shl_exact 7 (7 * j) 64 t (omega arith)

-- a number of j digits and one digit more
pub grown : (v b j : ℕ) → j < 9 → b < 128 → v < 2 ^ (7 * j) → v + (b * 2 ^ (7 * j)) % 2 ^ 64 < 2 ^ (7 * (j + 1))
grown v b j h t hv =
    let e : (b * 2 ^ (7 * j)) % 2 ^ 64 ≡ b * 2 ^ (7 * j) = exact b j h t in
    let m : b * 2 ^ (7 * j) + v < 128 * 2 ^ (7 * j) = digits_lt t hv in
    let bits : 7 * (j + 1) ≡ 7 + 7 * j = omega arith in
    let p : 2 ^ (7 * (j + 1)) ≡ 128 * 2 ^ (7 * j) = ap (λ (k : ℕ). 2 ^ k) bits ∙ pow-add 2 7 (7 * j) in
    omega arith

pub grown_fits : (v b j : ℕ) → j < 9 → b < 128 → v < 2 ^ (7 * j) → v + (b * 2 ^ (7 * j)) % 2 ^ 64 < 2 ^ 64
grown_fits v b j h t hv =
    let few : 7 * (j + 1) ≤ 64 = omega arith in
    lt_of_lt_of_le (grown v b j h t hv) (pow_mono few)

module _ (s : List ℕ) (at : ℕ) (r : NumberRead) (j v : ℕ) (e : r ≡ onto v (7 * j) (left_after s at j)) (b : ℕ) (eb : b ≡ get_or s (at + j) 0) (h : j < 9) (hl : at + j < length s) where
  pub turn_last : b < 128 → Ok (piece (v + (b * 2 ^ (7 * j)) % 2 ^ 64) (at + j + 1)) ≡ r
  turn_last t =
      ap (λ (x : ℕ). Ok (piece (v + x) (at + j + 1))) (exact b j h t ∙ ap (λ (x : ℕ). x * 2 ^ (7 * j)) eb)
      ∙ sym (e ∙ left_last s at j v h hl (omega arith))

  pub turn_more : 128 ≤ b → b < 256 → r ≡ onto (v + ((b - 128) * 2 ^ (7 * j)) % 2 ^ 64) (7 * (j + 1)) (left_after s at (j + 1))
  turn_more t u =
      let small : b - 128 < 128 = omega arith in
      e ∙ left_more s at j v h hl (omega arith)
      ∙ ap (λ (x : ℕ). onto (v + x) (7 * (j + 1)) (left_after s at (j + 1)))
      (ap (λ (x : ℕ). (x - 128) * 2 ^ (7 * j)) (sym eb) ∙ sym (exact (b - 128) j h small))

pub turn_short : (s : List ℕ) (at : ℕ) (r : NumberRead) (j v : ℕ) → r ≡ onto v (7 * j) (left_after s at j) → length s ≤ at + j → Err Eof ≡ r
turn_short s at r j v e h = sym (e ∙ ap (onto v (7 * j)) (left_short s at j h))

module _ (s : List ℕ) (at : ℕ) (r : NumberRead) (v : ℕ) (e : r ≡ onto v 63 (left_after s at 9)) (b : ℕ) (eb : b ≡ get_or s (at + 9) 0) (hl : at + 9 < length s) where
  pub turn_over : 1 < b → Err Overflow ≡ r
  turn_over t = sym (e ∙ left_over s at v hl (omega arith))

  pub turn_tenth : b ≤ 1 → Ok (piece (v + (b * 2 ^ 63) % 2 ^ 64) (at + 10)) ≡ r
  turn_tenth t =
      let x : (b * 2 ^ 63) % 2 ^ 64 ≡ get_or s (at + 9) 0 * 2 ^ 63 = omega arith in
      ap (λ (x : ℕ). Ok (piece (v + x) (at + 10))) x ∙ sym (e ∙ left_tenth s at v hl (omega arith))

pub first_long : (s : List ℕ) (at b : ℕ) → at < length s → b ≡ get_or s at 0 → 128 ≤ b → read_number s at ≡ onto (b - 128) (7 * 1) (left_after s at 1)
first_long s at b h e t = rw e (first_more s at h (omega arith))

pub first_one : (s : List ℕ) (at b : ℕ) → at < length s → b ≡ get_or s at 0 → b < 128 → Ok (piece b (at + 1)) ≡ read_number s at
first_one s at b h e t = rw e (sym (first_last s at h (omega arith)))

pub first_two : (s : List ℕ) (at a b : ℕ) → at + 1 < length s → a ≡ get_or s at 0 → b ≡ get_or s (at + 1) 0 → 128 ≤ a → b < 128
    → Ok (piece (a - 128 + (b * 2 ^ 7) % 2 ^ 64) (at + 2)) ≡ read_number s at
first_two s at a b room ea eb more t =
    let p : at + 1 + 1 ≡ at + 2 = omega arith in
    ap (λ (q : ℕ). Ok (piece (a - 128 + (b * 2 ^ 7) % 2 ^ 64) q)) (sym p)
    ∙ turn_last s at _ 1 (a - 128) (first_long s at a (omega arith) ea more) b eb (omega arith) room t

-- ---- what is read so far

-- one byte, whose top bit is set
pub so_far_one : (s : List ℕ) (at b : ℕ) → at < length s → b ≡ get_or s at 0 → 128 ≤ b → b < 256 → SoFar s at 1 (b - 128)
so_far_one s at b h e t u = record {
  small = omega arith;
  whole = first_long s at b h e t;
}

module _ (s : List ℕ) (at j v : ℕ) (f : SoFar s at j v) (b : ℕ) (eb : b ≡ get_or s (at + j) 0) (h : j < 9) (hl : at + j < length s) where
  pub so_far_more : 128 ≤ b → b < 256 → SoFar s at (j + 1) (v + ((b - 128) * 2 ^ (7 * j)) % 2 ^ 64)
  so_far_more t u = record {
    small = grown v (b - 128) j h (omega arith) f.small;
    whole = turn_more s at _ j v f.whole b eb h hl t u;
  }

  pub so_far_last : {q : ℕ} → q ≡ at + j + 1 → b < 128 → Ok (piece (v + (b * 2 ^ (7 * j)) % 2 ^ 64) q) ≡ read_number s at
  so_far_last e t = ap (λ (q : ℕ). Ok (piece (v + (b * 2 ^ (7 * j)) % 2 ^ 64) q)) e ∙ turn_last s at _ j v f.whole b eb h hl t
