-- A number in ten: its digits spell it, and the first of them is no 0, but for the number 0.
-- Assumes nothing.
use Prim.Native.Nat.{ℕ, zero, suc, ◌+◌, ◌-◌, ◌*◌, ◌/◌, ◌%◌, ◌^◌, ◌<◌}
use mathlib.Core.Path.{◌≡◌, refl}
use mathlib.Core.List.{List, [], ◌∷◌, ◌++◌}
use native.Mathlib.Omega.{arith}
use native.Mathlib.Nat.{pow-suc}
use lib.ListN.{get_or}
use Rattle.item_lines.specs.Decimal.{digits, decimal, spelled}
use Rattle.item_lines.proofs.Digits.{digits_one, digits_more, size, Size, small, large}

spelled_last : (n : ℕ) (ds : List ℕ) (d : ℕ) → spelled n (ds ++ (d ∷ [])) ≡ spelled n ds * 10 + (d - 48)
unfolding spelled
spelled_last n [] d = refl
spelled_last n (e ∷ ds) d = spelled_last (n * 10 + (e - 48)) ds d

fewer : (room n : ℕ) → n < 10 ^ suc (suc room) → n / 10 < 10 ^ suc room
fewer room n h = omega (arith, pow-suc 10 (suc room))

digits_spell : (room n : ℕ) → n < 10 ^ suc room → spelled 0 (digits room n) ≡ n
unfolding spelled
digits_spell zero n h = rw (digits_one zero n (omega arith)) (omega arith)
digits_spell (suc room) n h = go (digits_spell room (n / 10) (fewer room n h)) (size n)
  where
    go : spelled 0 (digits room (n / 10)) ≡ n / 10 → Size n → spelled 0 (digits (suc room) n) ≡ n
    go ih (small t) = rw (digits_one (suc room) n t) (omega arith)
    go ih (large t) = rw (digits_more room n t, spelled_last 0 (digits room (n / 10)) (48 + n % 10), ih) (omega arith)

pub decimal_spells : (n : ℕ) → n < 2 ^ 64 → spelled 0 (decimal n) ≡ n
unfolding decimal
decimal_spells n h = digits_spell 19 n (omega arith)

first_stays : (x y : List ℕ) → 48 < get_or x 0 0 → 48 < get_or (x ++ y) 0 0
first_stays [] y h = absurd (omega arith)
first_stays (d ∷ x) y h = h

digits_first : (room n : ℕ) → n < 10 ^ suc room → 0 < n → 48 < get_or (digits room n) 0 0
digits_first zero n h p = rw (digits_one zero n (omega arith)) (omega arith)
digits_first (suc room) n h p = go (digits_first room (n / 10) (fewer room n h)) (size n)
  where
    go : (0 < n / 10 → 48 < get_or (digits room (n / 10)) 0 0) → Size n → 48 < get_or (digits (suc room) n) 0 0
    go ih (small t) = rw (digits_one (suc room) n t) (omega arith)
    go ih (large t) = rw (digits_more room n t) (first_stays (digits room (n / 10)) ((48 + n % 10) ∷ []) (ih (omega arith)))

pub no_zero_first : (n : ℕ) → n < 2 ^ 64 → 0 < n → 48 < get_or (decimal n) 0 0
unfolding decimal
no_zero_first n h p = digits_first 19 n (omega arith) p

pub zero_is_0 : decimal 0 ≡ 48 ∷ []
unfolding decimal digits
zero_is_0 = refl
