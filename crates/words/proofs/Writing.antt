-- Writing at a place of a lent buffer: what stands there afterwards, and the copying loop's invariant, one law for each way out.
-- Assumes nothing.
use Prim.Native.Nat.{ℕ, ◌+◌, ◌≤◌, ◌<◌, zero-le}
use mathlib.Core.Path.{◌≡◌, refl, sym, ap, ◌∙◌}
use mathlib.Core.Bool.{Bool, true, false, cond}
use mathlib.Core.List.{List}
use Rattle.std.specs.Prelude.{Option, Some, None}
use native.Mathlib.Omega.{arith}
use native.Mathlib.Nat.{add-zero, add-suc}
use native.Mathlib.Numerals.{add-one}
use lib.Dec.{leb}
use lib.ListN.{length, get_or, drop, set, length-set, drop_of_length-le}
use lib.Seq.{sets, sets-eq, drop-cons}
use borrow.Author.Tests.{le-leb, lt-leb}
use Rattle.words.specs.Write.{placed, wrote_at, next_at}

pub no_room : (out : List ℕ) (at : ℕ) (bs : List ℕ) → length out < at + length bs → (None ≡ wrote_at out at bs) × (out ≡ placed out at bs)
no_room out at bs h = (simp (lt-leb _ _ h), simp (lt-leb _ _ h))

pub room_for : (out : List ℕ) (at : ℕ) (bs : List ℕ) (r : List ℕ) (next : ℕ) → at + length bs ≤ length out → (r ≡ sets out at bs) × (next ≡ at + length bs)
    → (Some next ≡ wrote_at out at bs) × (r ≡ placed out at bs)
room_for out at bs r next h e =
    (simp (le-leb _ _ h) (ap Some e.1), simp (le-leb _ _ h) (e.0 ∙ sets-eq bs out at h))

-- What is left of src still has to be stored.
pub record Copies (src out₀ : List ℕ) (at : ℕ) (out : List ℕ) (i : ℕ) : Type 0 where
  pub within : i ≤ length src
  pub same : length out ≡ length out₀
  pub bytes : sets out (at + i) (drop i src) ≡ sets out₀ at src

pub copies_start : (src out : List ℕ) (at : ℕ) → Copies src out at out 0
copies_start src out at = record { within = zero-le; same = refl; bytes = ap (λ (p : ℕ). sets out p src) (add-zero at) }

module _ {src out₀ : List ℕ} {at : ℕ} {out : List ℕ} {i : ℕ} where
  pub copies_more : Copies src out₀ at out i → i < length src → Copies src out₀ at (set out (at + i) (get_or src i 0)) (i + 1)
  copies_more w h = record {
    within = omega arith;
    same = length-set out (at + i) (get_or src i 0) ∙ w.same;
    bytes = rw (add-one, add-suc at i) (rw (drop-cons src i 0 h) at w.bytes);
  }

  pub copies_done : Copies src out₀ at out i → length src ≤ i → out ≡ sets out₀ at src
  copies_done w h = ap (sets out (at + i)) (sym (drop_of_length-le src h)) ∙ w.bytes

-- The place alone.
module _ (out : List ℕ) (at : ℕ) (bs : List ℕ) {w : Option ℕ} (e : w ≡ wrote_at out at bs) where
  pub next_of : {n : ℕ} → w ≡ Some n → n ≡ next_at out at bs
  unfolding next_at
  next_of {n} h = go (leb (at + length bs) (length out)) (sym h ∙ e)
    where
      go : (b : Bool) → Some n ≡ cond b (Some (at + length bs)) None → n ≡ cond b (at + length bs) at
      go true k = cc
      go false k = absurd (let z : ◌≡◌ {A = ℕ} 0 1 = cc in omega arith)

  pub place_of : w ≡ None → at ≡ next_at out at bs
  unfolding next_at
  place_of h = go (leb (at + length bs) (length out)) (sym h ∙ e)
    where
      go : (b : Bool) → None ≡ cond b (Some (at + length bs)) None → at ≡ cond b (at + length bs) at
      go true k = absurd (let z : ◌≡◌ {A = ℕ} 0 1 = cc in omega arith)
      go false k = refl

-- bytes that another function gave
pub of_bytes : (out : List ℕ) (at : ℕ) {src bs : List ℕ} (r : Option ℕ) (later : List ℕ) → src ≡ bs
    → (r ≡ wrote_at out at src) × (later ≡ placed out at src) → (r ≡ wrote_at out at bs) × (later ≡ placed out at bs)
of_bytes out at r later e h = rw e at h
