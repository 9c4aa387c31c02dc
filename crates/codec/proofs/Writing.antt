-- Writing a number at a place of a lent buffer: the loops' invariants, one law for each way out.
-- Assumes nothing.
use Prim.Native.Nat.{ℕ, zero, suc, ◌+◌, ◌*◌, ◌/◌, ◌%◌, ◌^◌, ◌≤◌, ◌<◌}
use mathlib.Core.Path.{◌≡◌, refl, sym, ap, ◌∙◌}
use mathlib.Core.List.{List, [], ◌∷◌}
use native.Mathlib.Omega.{arith}
use native.Mathlib.Nat.{add-zero}
use native.Mathlib.Numerals.{add-one}
use lib.ListN.{length, set, length-set}
use lib.Seq.{sets}
use Rattle.words.specs.Write.{placed, wrote_at}
use Rattle.std.specs.Prelude.{Some, None}
use Rattle.words.proofs.Writing.{no_room, room_for}
use Rattle.codec.specs.Shortest.{spell, shortest}
use Rattle.codec.proofs.Shortest.{Size, small, large, size, spell_one, spell_more, spell_pos, fewer, shortest_few}

-- What holds at the head of the writer's loop: what is left has a spelling, which still has to be stored from i on.
pub record Writes (n : ℕ) (out₀ : List ℕ) (at : ℕ) (out : List ℕ) (left i : ℕ) : Type 0 where
  pub room : ℕ
  pub small : left < 2 ^ (1 + 7 * room)
  pub same : length out ≡ length out₀
  pub bytes : sets out i (spell room left) ≡ sets out₀ at (shortest n)
  pub ends : i + length (spell room left) ≡ at + length (shortest n)

pub writes_start : (n : ℕ) (out : List ℕ) (at : ℕ) → n < 2 ^ 64 → Writes n out at out n at
unfolding shortest
writes_start n out at h = record { room = 9; small = h; same = refl; bytes = refl; ends = refl }

module _ {n : ℕ} {out₀ : List ℕ} {at : ℕ} {out : List ℕ} {left i : ℕ} where
  pub writes_room : Writes n out₀ at out left i → i < at + length (shortest n)
  writes_room w = omega (arith, spell_pos w.room left, w.ends)

  pub writes_more : Writes n out₀ at out left i → 128 ≤ left → Writes n out₀ at (set out i (128 + left % 128)) (left / 128) (i + 1)
  writes_more w t = go w.room w.small w.bytes w.ends
    where
      go : (room : ℕ) → left < 2 ^ (1 + 7 * room) → sets out i (spell room left) ≡ sets out₀ at (shortest n)
          → i + length (spell room left) ≡ at + length (shortest n) → Writes n out₀ at (set out i (128 + left % 128)) (left / 128) (i + 1)
      go zero s b e = absurd (omega arith)
      go (suc room) s b e = record {
        room = room;
        small = fewer room left s;
        same = length-set out i (128 + left % 128) ∙ w.same;
        bytes = rw add-one (rw (spell_more room left t) at b);
        ends = omega (arith, ap length (spell_more room left t));
      }

  pub writes_last : Writes n out₀ at out left i → left < 128 → (set out i left ≡ sets out₀ at (shortest n)) × (i + 1 ≡ at + length (shortest n))
  writes_last w t = (
    ap (sets out i) (sym (spell_one w.room left t)) ∙ w.bytes,
    omega (arith, ap length (spell_one w.room left t), w.ends),
  )

-- a number of one byte, or no room for it
pub one_short : (n : ℕ) (out : List ℕ) (at : ℕ) → n < 128 → length out ≤ at → (None ≡ wrote_at out at (shortest n)) × (out ≡ placed out at (shortest n))
unfolding shortest
one_short n out at t h = rw (spell_one 9 n t) (no_room out at (n ∷ []) (omega arith))

pub one_byte : (n : ℕ) (out : List ℕ) (at : ℕ) → n < 128 → at < length out
    → (Some (at + 1) ≡ wrote_at out at (shortest n)) × (set out at n ≡ placed out at (shortest n))
unfolding shortest
one_byte n out at t h = rw (spell_one 9 n t) (room_for out at (n ∷ []) (set out at n) (at + 1) (omega arith) (refl, refl))

-- ---- a number of two bytes

module _ (n : ℕ) (out : List ℕ) (at : ℕ) (many : 128 ≤ n) (few : n < 16384) where
  both : (set (set out at (128 + n % 128)) (at + 1) (n / 128) ≡ sets out at (shortest n)) × (at + 1 + 1 ≡ at + length (shortest n))
  both = writes_last (writes_more (writes_start n out at (omega arith)) many) (omega arith)

  pub two_short : length out < at + 2 → (None ≡ wrote_at out at (shortest n)) × (out ≡ placed out at (shortest n))
  two_short h = no_room out at (shortest n) (omega (arith, both.1))

  pub two_bytes : at + 2 ≤ length out
      → (Some (at + 2) ≡ wrote_at out at (shortest n)) × (set (set out at (128 + n % 128)) (at + 1) (n / 128) ≡ placed out at (shortest n))
  two_bytes h = room_for out at (shortest n) _ (at + 2) (omega (arith, both.1)) (both.0, omega (arith, both.1))

-- ---- the loop over nine bytes

pub writes_begin : (n : ℕ) (out : List ℕ) (at : ℕ) → n < 2 ^ 64 → Writes n out at out n (at + 0)
writes_begin n out at h = rw (add-zero at) (writes_start n out at h)

module _ {n : ℕ} {out₀ : List ℕ} {at : ℕ} {out : List ℕ} {left : ℕ} (j : ℕ) (w : Writes n out₀ at out left (at + j)) where
  pub writes_step : 128 ≤ left → Writes n out₀ at (set out (at + j) (128 + left % 128)) (left / 128) (at + (j + 1))
  writes_step t =
      let e : at + (j + 1) ≡ at + j + 1 = omega arith in
      rw e (writes_more w t)

  -- what is left for the tenth byte is one digit
  pub tenth : length (shortest n) ≤ 10 → 9 ≤ j → left < 128
  tenth few l = go (size left) w.room w.small w.ends
    where
      go : Size left → (room : ℕ) → left < 2 ^ (1 + 7 * room) → at + j + length (spell room left) ≡ at + length (shortest n) → left < 128
      go (small h) room s e = h
      go (large h) zero s e = absurd (omega arith)
      go (large h) (suc room) s e = absurd (omega (arith, ap length (spell_more room left h), spell_pos room (left / 128)))

  pub writes_end : n < 2 ^ 64 → j ≤ 9 → 9 ≤ j → (set out (at + 9) left ≡ sets out₀ at (shortest n)) × (at + 10 ≡ at + length (shortest n))
  writes_end h l m =
      let few = shortest_few n h in
      let e : j ≡ 9 = omega arith in
      let last = writes_last w (tenth few m) in
      (rw e at last.0, omega (arith, last.1))
