-- Tails, one after the other: their length and total, and their bytes as they are stored.
-- Assumes nothing.
use Prim.Native.Nat.{ℕ, ◌+◌, ◌≤◌, ◌<◌, ◌^◌}
use mathlib.Core.Path.{◌≡◌, refl, sym, ap, ◌∙◌}
use mathlib.Core.Bool.{Bool, true, false, not, cond}
use mathlib.Core.List.{List, [], ◌∷◌, ◌++◌}
use lib.Dec.{ltb}
use native.Mathlib.Omega.{arith}
use native.Mathlib.Numerals.{add-one}
use lib.ListN.{length, get_or, drop, length-append, drop_of_length-le}
use lib.Seq.{drop-cons}
use borrow.Author.Tests.{ltb-true, ltb-false, lt-ltb, le-ltb}
use Rattle.std.specs.Prelude.{Result, Ok, Err}
use Rattle.refusal.specs.declared.Reason.{Reason}
use Rattle.refusal.specs.declared.Reason.TheVariants.{TailTooLarge}
use Rattle.codec.specs.Shortest.{shortest}
use Rattle.log_item.specs.Bytes.{tails_bytes}
use Rattle.log_item.specs.Written.{sum_of}
use Rattle.log_item.specs.Private.{Room, Stored, fitted, tails_size}
use Rattle.log_item.proofs.Stores.{stored_none, stored_length, stored_then, stored_same, room_then, room_first, room_same}

-- A total is never below what it started from
pub sum_rises : (t : ℕ) (lengths : List ℕ) → t ≤ sum_of t lengths
unfolding sum_of
sum_rises t [] = omega arith
sum_rises t (n ∷ lengths) = omega (arith, sum_rises (t + n) lengths)

-- From the place i of a list on: the length there and what is behind it, the total before them being t.
module _ (lengths : List ℕ) (i t : ℕ) where
  done : length lengths ≤ i → drop i lengths ≡ []
  done h = drop_of_length-le lengths h

  module _ (h : i < length lengths) where
    step : drop i lengths ≡ get_or lengths i 0 ∷ drop (i + 1) lengths
    step = drop-cons lengths i 0 h ∙ (rw add-one)

    step_sum : sum_of t (drop i lengths) ≡ sum_of (t + get_or lengths i 0) (drop (i + 1) lengths)
    unfolding sum_of
    step_sum = rw step

    step_bytes : tails_bytes (drop i lengths) t ≡ shortest (t + get_or lengths i 0) ++ tails_bytes (drop (i + 1) lengths) (t + get_or lengths i 0)
    unfolding tails_bytes
    step_bytes = rw step

-- ---- their size, a length at a time

module _ (lengths : List ℕ) (i size t : ℕ) where
  pub size_end : length lengths ≤ i → size < 2 ^ 64 → t < 2 ^ 32 → tails_size size (drop i lengths) t ≡ Ok (size, t)
  unfolding tails_size sum_of tails_bytes
  size_end h l k = let e : fitted (size + 0) ≡ size = omega arith in rw (done lengths i t h, le-ltb 4294967295 t (omega arith), e)

  module _ (h : i < length lengths) where
    pub size_next : tails_size size (drop i lengths) t ≡ tails_size (fitted (size + length (shortest (t + get_or lengths i 0)))) (drop (i + 1) lengths) (t + get_or lengths i 0)
    unfolding tails_size
    size_next =
        let a : List ℕ = shortest (t + get_or lengths i 0) in
        let b : List ℕ = tails_bytes (drop (i + 1) lengths) (t + get_or lengths i 0) in
        let e : fitted (size + length (a ++ b)) ≡ fitted (fitted (size + length a) + length b) = omega (arith, length-append a b) in
        rw (step_sum lengths i t h, step_bytes lengths i t h, e)

    pub size_over : 2 ^ 32 ≤ t + get_or lengths i 0 → tails_size size (drop i lengths) t ≡ Err TailTooLarge
    unfolding tails_size
    size_over big =
        let over : 4294967295 < sum_of t (drop i lengths) = omega (arith, sum_rises (t + get_or lengths i 0) (drop (i + 1) lengths), step_sum lengths i t h) in
        rw (lt-ltb _ _ over)

-- ---- their bytes, a tail at a time

-- What is stored behind what was, from the total `before` on
pub record Putting (lengths : List ℕ) (before : ℕ) (out₀ : List ℕ) (start : ℕ) (out : List ℕ) (total at i : ℕ) : Type 0 where
  pub same : length out ≡ length out₀
  pub sum : sum_of total (drop i lengths) ≡ sum_of before lengths
  pub room : Room out at (tails_bytes (drop i lengths) total)
  pub left : {n : ℕ} {later : List ℕ} → Stored out at (tails_bytes (drop i lengths) total) n later → Stored out₀ start (tails_bytes lengths before) n later

pub putting_start : (lengths : List ℕ) (before : ℕ) {out : List ℕ} {start : ℕ} → Room out start (tails_bytes lengths before)
    → Putting lengths before out start out before start 0
putting_start lengths before h = record { same = refl; sum = refl; room = h; left = λ w. w }

module _ {lengths : List ℕ} {before : ℕ} {out₀ : List ℕ} {start : ℕ} {out : List ℕ} {total at i : ℕ} (w : Putting lengths before out₀ start out total at i) where
  pub putting_small : i < length lengths → total + get_or lengths i 0 ≤ sum_of before lengths
  putting_small h = omega (arith, sum_rises (total + get_or lengths i 0) (drop (i + 1) lengths), step_sum lengths i total h, w.sum)

  pub putting_room : i < length lengths → Room out at (shortest (total + get_or lengths i 0))
  putting_room h = room_first _ _ (room_same (step_bytes lengths i total h) w.room)

  pub putting_next : {m : ℕ} {mid : List ℕ} → i < length lengths → Stored out at (shortest (total + get_or lengths i 0)) m mid
      → Putting lengths before out₀ start mid (total + get_or lengths i 0) m (i + 1)
  putting_next h put =
      record {
        same = stored_length put ∙ w.same;
        sum = sym (step_sum lengths i total h) ∙ w.sum;
        room = room_then _ put (room_same (step_bytes lengths i total h) w.room);
        left = λ x. w.left (stored_same (step_bytes lengths i total h) (stored_then put x));
      }

  pub putting_end : length lengths ≤ i → Stored out₀ start (tails_bytes lengths before) at out
  unfolding tails_bytes
  putting_end h = w.left (stored_same (ap (λ (l : List ℕ). tails_bytes l total) (done lengths i total h)) (stored_none out at))

-- What a size says.
module _ (size : ℕ) (lengths : List ℕ) (t : ℕ) where
  pub sized_over : {x : Reason} → tails_size size lengths t ≡ Err x → (4294967295 < sum_of t lengths) × (x ≡ TailTooLarge)
  unfolding tails_size
  sized_over e = go (ltb 4294967295 (sum_of t lengths)) refl _ e
    where
      go : (b : Bool) → ltb 4294967295 (sum_of t lengths) ≡ b → (y : ℕ × ℕ) {x : Reason} → cond (not b) (Ok y) (Err TailTooLarge) ≡ Err x
          → (4294967295 < sum_of t lengths) × (x ≡ TailTooLarge)
      go true k y e = (ltb-true _ _ k, cc)
      go false k y e = absurd (cc)

  pub sized_fine : {n u : ℕ} → tails_size size lengths t ≡ Ok (n, u)
      → (sum_of t lengths ≤ 4294967295) × (n ≡ fitted (size + length (tails_bytes lengths t))) × (u ≡ sum_of t lengths)
  unfolding tails_size
  sized_fine {n} {u} e = go (ltb 4294967295 (sum_of t lengths)) refl _ _ e
    where
      go : (b : Bool) → ltb 4294967295 (sum_of t lengths) ≡ b → (m v : ℕ) → cond {A = Result (ℕ × ℕ) Reason} (not b) (Ok (m, v)) (Err TailTooLarge) ≡ Ok (n, u)
          → (sum_of t lengths ≤ 4294967295) × (n ≡ m) × (u ≡ v)
      go true k m v e = absurd (cc)
      go false k m v e =
          let p : ◌≡◌ {A = ℕ × ℕ} (n, u) (m, v) = cc in
          (ltb-false _ _ k, ap (λ (z : ℕ × ℕ). z.0) p, ap (λ (z : ℕ × ℕ). z.1) p)
