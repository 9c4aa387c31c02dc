-- The parts of a list of bytes are bytes, and two beginnings of it that are as long are the same.
-- Assumes nothing.
use Prim.Native.Nat.{ℕ, zero, suc, ◌+◌, ◌<◌}
use mathlib.Core.Path.{◌≡◌, sym, ap, ◌∙◌}
use mathlib.Core.List.{List, [], ◌∷◌, ◌++◌}
use native.Mathlib.Omega.{arith}
use lib.Dec.{lit<}
use lib.ListN.{length, take, drop, get_or}
use lib.Seq.{get_or-drop, take-append_seam, take_at}
use Rattle.words.specs.Byte.{Bytes}

pub bytes_front : (x y : List ℕ) → Bytes (x ++ y) → Bytes x
bytes_front [] y b i = lit< tt
bytes_front (d ∷ x) y b zero = b 0
bytes_front (d ∷ x) y b (suc i) = bytes_front x y (λ j. b (suc j)) i

pub bytes_take : (n : ℕ) (s : List ℕ) → Bytes s → Bytes (take n s)
bytes_take zero s b i = lit< tt
bytes_take (suc n) [] b i = lit< tt
bytes_take (suc n) (d ∷ s) b zero = b 0
bytes_take (suc n) (d ∷ s) b (suc i) = bytes_take n s (λ j. b (suc j)) i

pub bytes_drop : (n : ℕ) (s : List ℕ) → Bytes s → Bytes (drop n s)
bytes_drop n s b i = rw get_or-drop (b (n + i))

pub as_long : (x y r z : List ℕ) → length x ≡ length y → x ++ r ≡ y ++ z → x ≡ y
as_long x y r z long e = sym (take-append_seam x r) ∙ ap (take (length x)) e ∙ take_at y z (length x) (sym long)

-- Where there is nothing, each is below n.
pub none_below : (n : ℕ) → 0 < n → (s : List ℕ) → length s ≡ 0 → (i : ℕ) → get_or s i 0 < n
none_below n h [] e i = h
none_below n h (x ∷ s) e i = absurd (omega arith)
