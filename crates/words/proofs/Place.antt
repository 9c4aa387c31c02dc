-- Bytes that stand in a list from one place to another.
-- Assumes nothing.
use Prim.Native.Nat.{ℕ, ◌+◌, ◌≤◌, ◌<◌}
use mathlib.Core.Path.{◌≡◌, refl, sym, ap, ◌∙◌}
use mathlib.Core.List.{List, [], ◌∷◌, ◌++◌, append_assoc}
use native.Mathlib.Omega.{arith}
use native.Mathlib.Numerals.{add-one}
use lib.ListN.{length, get_or, drop, length-append, length-drop}
use lib.Seq.{drop-cons, drop-drop, drop-append_seam}
use Rattle.words.specs.Byte.{Bytes}
use Rattle.words.specs.Place.{At}
use Rattle.words.proofs.Bytes.{bytes_front, bytes_drop}

-- Bytes with others behind them begin them.
pub at_front : (x y : List ℕ) → At (x ++ y) 0 (length x) x
at_front x y = record { stand = rw (drop-append_seam x y); ends = omega arith }

module _ {s : List ℕ} where
  -- Bytes, and bytes where they end, stand there together.
  pub join : {p a q : ℕ} {x y : List ℕ} → At s p a x → At s a q y → At s p q (x ++ y)
  join {x = x} {y = y} f g = record { stand = cc (append_assoc x y (drop _ s)); ends = omega (arith, length-append x y) }

  -- Bytes that stand there together stand there one after the other.
  pub cut : {p q : ℕ} (x : List ℕ) {y : List ℕ} → At s p q (x ++ y) → At s p (p + length x) x × At s (p + length x) q y
  cut {p} {q} x {y} f =
      let e : drop (p + length x) s ≡ y ++ drop q s = sym (drop-drop (length x) p s) ∙ ap (drop (length x)) (f.stand ∙ append_assoc x y (drop q s)) ∙ drop-append_seam x _ in
      (record { stand = cc (append_assoc x y (drop q s)); ends = refl }, record { stand = e; ends = omega (arith, length-append x y, f.ends) })

  -- No bytes stand at every place.
  pub at_nothing : (p : ℕ) → At s p p []
  at_nothing p = record { stand = refl; ends = omega arith }

  -- A place of the list holds its byte.
  pub at_byte : (p : ℕ) → p < length s → At s p (p + 1) (get_or s p 0 ∷ [])
  at_byte p h = record { stand = rw (add-one, drop-cons s p 0); ends = omega arith }

  -- The place after some bytes is in the list.
  pub at_inside : {p q : ℕ} {x : List ℕ} → At s p q x → 0 < length x → q ≤ length s
  at_inside {p} {q} {x} f some = omega (arith, f.ends, simp (length-drop, length-append) at (ap length f.stand))

  -- What stands in a list of bytes is bytes.
  pub bytes_at : {p q : ℕ} {x : List ℕ} → At s p q x → Bytes s → Bytes x
  bytes_at {p} {q} {x} f b = bytes_front x (drop q s) (rw f.stand at (bytes_drop p s b))
