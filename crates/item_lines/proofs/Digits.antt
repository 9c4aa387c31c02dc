-- The digits of a number: how many there are at most, and what the loop that puts them from the last on holds, one law for each way out.
-- Assumes nothing.
use Prim.Native.Nat.{ℕ, zero, suc, ◌+◌, ◌-◌, ◌/◌, ◌%◌, ◌^◌, ◌≤◌, ◌<◌}
use mathlib.Core.Path.{◌≡◌, refl, sym, ap, ◌∙◌}
use mathlib.Core.Bool.{Bool, true, false}
use mathlib.Core.List.{List, [], ◌∷◌, ◌++◌, append_assoc, append-nil}
use native.Mathlib.Omega.{arith}
use native.Mathlib.Nat.{pow-suc}
use lib.Dec.{ltb}
use lib.ListN.{length, drop, set, length-set, length-append, drop_of_length-le}
use lib.Seq.{drop-cons, drop-set-lt, get_or-set_same}
use borrow.Author.Tests.{lt-ltb, le-ltb, ltb-true, ltb-false}
use Rattle.item_lines.specs.Decimal.{digits, decimal}

pub digits_one : (room n : ℕ) → n < 10 → digits room n ≡ (48 + n) ∷ []
unfolding digits
digits_one zero n h = refl
digits_one (suc room) n h = simp (lt-ltb _ _ h)

pub digits_more : (room n : ℕ) → 10 ≤ n → digits (suc room) n ≡ digits room (n / 10) ++ ((48 + n % 10) ∷ [])
unfolding digits
digits_more room n h = simp (le-ltb _ _ h)

-- n is below 10, or not
pub data Size (n : ℕ) : Type 0 where
  small : n < 10 → Size n
  large : 10 ≤ n → Size n

pub size : (n : ℕ) → Size n
size n = go (ltb n 10) refl
  where
    go : (t : Bool) → ltb n 10 ≡ t → Size n
    go true e = small (ltb-true n 10 e)
    go false e = large (ltb-false n 10 e)

-- ---- how many

digits_few : (room n : ℕ) → length (digits room n) ≤ suc room
unfolding digits
digits_few zero n = omega arith
digits_few (suc room) n = go (digits_few room (n / 10)) (size n)
  where
    go : length (digits room (n / 10)) ≤ suc room → Size n → length (digits (suc room) n) ≤ suc (suc room)
    go ih (small t) = rw (digits_one (suc room) n t) (omega arith)
    go ih (large t) = rw (digits_more room n t) (omega (arith, length-append (digits room (n / 10)) ((48 + n % 10) ∷ [])))

pub decimal_few : (n : ℕ) → length (decimal n) ≤ 20
unfolding decimal
decimal_few n = digits_few 19 n

-- ---- the loop

-- the digit at i is the next one, and those behind it stand there
pub record Puts (n : ℕ) (text : List ℕ) (i left : ℕ) : Type 0 where
  pub within : i ≤ 19
  pub long : length text ≡ 20
  pub few : left < 10 ^ suc i
  pub same : digits i left ++ drop (suc i) text ≡ decimal n

-- a digit stands in front of those behind it
stands : (text : List ℕ) (i d : ℕ) → i < length text → drop i (set text i d) ≡ d ∷ drop (suc i) text
stands text i d h = let there : i < length (set text i d) = omega (arith, length-set text i d) in
    rw (drop-cons (set text i d) i 0 there, get_or-set_same text i d 0 h, drop-set-lt (suc i) text i d (omega arith))

pub puts_start : (n : ℕ) (text : List ℕ) → n < 2 ^ 64 → length text ≡ 20 → Puts n text 19 n
unfolding decimal
puts_start n text h l = record {
  within = omega arith;
  long = l;
  few = omega arith;
  same = let short : length text ≤ 20 = omega arith in rw (drop_of_length-le text short) (append-nil (digits 19 n));
}

module _ {n : ℕ} {text : List ℕ} {left : ℕ} where
  next_digit : (i : ℕ) → Puts n text (suc i) left → 10 ≤ left → Puts n (set text (suc i) (48 + left % 10)) i (left / 10)
  next_digit i w h = record {
    within = omega (arith, w.within);
    long = length-set text (suc i) (48 + left % 10) ∙ w.long;
    few = omega (arith, w.few, pow-suc 10 (suc i));
    same =
        rw (stands text (suc i) (48 + left % 10) (omega (arith, w.within, w.long)))
        (sym (append_assoc (digits i (left / 10)) ((48 + left % 10) ∷ []) (drop (suc (suc i)) text)) ∙ ap (λ (l : List ℕ). l ++ drop (suc (suc i)) text) (sym (digits_more i left h)) ∙ w.same);
  }

  pub some_left : (i : ℕ) → Puts n text i left → 10 ≤ left → 0 < i
  some_left zero w h = absurd (omega (arith, w.few))
  some_left (suc i) w h = omega arith

  pub puts_more : (i : ℕ) → Puts n text i left → 10 ≤ left → Puts n (set text i (48 + left % 10)) (i - 1) (left / 10)
  puts_more zero w h = absurd (omega (arith, some_left zero w h))
  puts_more (suc i) w h = let e : suc i - 1 ≡ i = omega arith in rw e (next_digit i w h)

  pub puts_end : {i : ℕ} → Puts n text i left → left < 10 → drop i (set text i (48 + left)) ≡ decimal n
  puts_end {i} w h =
      stands text i (48 + left) (omega (arith, w.within, w.long))
      ∙ ap (λ (l : List ℕ). l ++ drop (suc i) text) (sym (digits_one i left h)) ∙ w.same
