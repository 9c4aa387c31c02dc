-- The shortest spelling, digit by digit: that it spells its number, how many digits it has, that none is shorter, that none else is as short, and what fits so many digits.
-- Assumes nothing.
use Prim.Native.Nat.{ℕ, zero, suc, ◌+◌, ◌-◌, ◌*◌, ◌/◌, ◌%◌, ◌^◌, ◌≤◌, ◌<◌, suc-le-suc, zero-le}
use mathlib.Core.Path.{◌≡◌, refl, ap, ◌∙◌}
use mathlib.Core.Logic.{◌⊎◌, inl, inr, ⊎_elim}
use mathlib.Core.Bool.{Bool, true, false, cond}
use mathlib.Core.List.{List, [], ◌∷◌}
use native.Mathlib.Omega.{arith}
use native.Mathlib.Nat.{not-le_of_lt, lt_of_not-le, le_of_suc-le-suc}
use lib.Dec.{ltb}
use lib.ListN.{length, get_or}
use lib.Pow.{pow-add, pow_mono, pow_pos}
use borrow.Author.Tests.{lt-ltb, le-ltb, ltb-true, ltb-false}
use Rattle.codec.specs.Spelling.{Groups, last, more}
use Rattle.codec.specs.Shortest.{spell, shortest}
use Rattle.codec.proofs.Spelled.{SpellsIn, groups_pos}

spell_zero : (n : ℕ) → spell zero n ≡ n ∷ []
unfolding spell
spell_zero n = refl

pub spell_one : (room n : ℕ) → n < 128 → spell room n ≡ n ∷ []
unfolding spell
spell_one zero n h = refl
spell_one (suc room) n h = simp (lt-ltb _ _ h)

pub spell_more : (room n : ℕ) → 128 ≤ n → spell (suc room) n ≡ (128 + n % 128) ∷ spell room (n / 128)
unfolding spell
spell_more room n h = simp (le-ltb _ _ h)

-- n is below 128, or not
pub data Size (n : ℕ) : Type 0 where
  small : n < 128 → Size n
  large : 128 ≤ n → Size n

pub size : (n : ℕ) → Size n
size n = go (ltb n 128) refl
  where
    go : (t : Bool) → ltb n 128 ≡ t → Size n
    go true e = small (ltb-true n 128 e)
    go false e = large (ltb-false n 128 e)

-- one digit more
pub digit : (m : ℕ) → 2 ^ (7 * suc m) ≡ 128 * 2 ^ (7 * m)
digit m =
    let bits : 7 * suc m ≡ 7 + 7 * m = omega arith in
    ap (λ (k : ℕ). 2 ^ k) bits ∙ pow-add 2 7 (7 * m)

pub digit' : (m : ℕ) → 2 ^ (1 + 7 * suc m) ≡ 128 * 2 ^ (1 + 7 * m)
digit' m =
    let bits : 1 + 7 * suc m ≡ 7 + (1 + 7 * m) = omega arith in
    ap (λ (k : ℕ). 2 ^ k) bits ∙ pow-add 2 7 (1 + 7 * m)

pub fewer : (room n : ℕ) → n < 2 ^ (1 + 7 * suc room) → n / 128 < 2 ^ (1 + 7 * room)
fewer room n h = omega (arith, digit' room)

-- The shortest spelling is one.
pub spell_good : (room n : ℕ) → n < 2 ^ (1 + 7 * room) → SpellsIn room n (spell room n)
spell_good zero n h =
    let t : n < 128 = omega arith in
    rw (spell_one zero n t) (record { groups = last t; few = omega arith; tenth = omega arith })
spell_good (suc room) n h = go (spell_good room (n / 128) (fewer room n h)) (size n)
  where
    go : SpellsIn room (n / 128) (spell room (n / 128)) → Size n → SpellsIn (suc room) n (spell (suc room) n)
    go ih (small t) = rw (spell_one (suc room) n t) (record { groups = last t; few = omega arith; tenth = zero-le })
    go ih (large t) =
        let value : 128 + n % 128 - 128 + 128 * (n / 128) ≡ n = omega arith in
        let g : Groups (128 + n % 128 - 128 + 128 * (n / 128)) ((128 + n % 128) ∷ spell room (n / 128)) = more {b = 128 + n % 128} (omega arith) ih.groups in
        rw (spell_more room n t) (record { groups = rw value at g; few = suc-le-suc ih.few; tenth = ih.tenth })

-- ---- the length

-- n has m + 1 digits of seven bits: it fits them, and does not fit one less, but for the first
pub record Digits (n m : ℕ) : Type 0 where
  pub fits : n < 2 ^ (7 * suc m)
  pub needs : (m ≡ 0) ⊎ (2 ^ (7 * m) ≤ n)

pub spell_digits : (room n : ℕ) → n < 2 ^ (1 + 7 * room) → (m : ℕ) × (length (spell room n) ≡ suc m) × Digits n m
spell_digits zero n h = (0, ap length (spell_one zero n (omega arith)), record { fits = omega arith; needs = inl refl })
spell_digits (suc room) n h = go (spell_digits room (n / 128) (fewer room n h)) (size n)
  where
    go : (m : ℕ) × (length (spell room (n / 128)) ≡ suc m) × Digits (n / 128) m → Size n → (m : ℕ) × (length (spell (suc room) n) ≡ suc m) × Digits n m
    go ih (small t) = (0, ap length (spell_one (suc room) n t), record { fits = t; needs = inl refl })
    go ih (large t) = (
      suc ih.0,
      ap length (spell_more room n t) ∙ ap suc ih.1,
      record {
        fits = omega (arith, digit (suc ih.0), ih.2.fits);
        needs = inr (⊎_elim (λ (e : ih.0 ≡ 0). rw e t) (λ (l : 2 ^ (7 * ih.0) ≤ n / 128). omega (arith, digit ih.0)) ih.2.needs);
      },
    )

pub below_pow : (i k : ℕ) → 2 ^ i < 2 ^ k → i < k
below_pow i k h = lt_of_not-le (λ (g : k ≤ i). not-le_of_lt h (pow_mono g))

-- No spelling in bytes is shorter.
pub spell_least : (room : ℕ) {n : ℕ} {bs : List ℕ} → Groups n bs → ((i : ℕ) → get_or bs i 0 < 256) → length (spell room n) ≤ length bs
spell_least zero {n} (last h) hb = rw (spell_one zero n h) (omega arith)
spell_least (suc room) {n} (last h) hb = rw (spell_one (suc room) n h) (omega arith)
spell_least zero (more h g) hb = rw spell_zero (suc-le-suc zero-le)
spell_least (suc room) {n} (more {b} {n = m} {bs} h g) hb = go (spell_least room g (λ i. hb (suc i))) (size (b - 128 + 128 * m))
  where
    go : length (spell room m) ≤ length bs → Size (b - 128 + 128 * m) → length (spell (suc room) (b - 128 + 128 * m)) ≤ suc (length bs)
    go ih (small t) = rw (spell_one (suc room) (b - 128 + 128 * m) t) (omega arith)
    go ih (large t) =
        let rest : (b - 128 + 128 * m) / 128 ≡ m = omega (arith, hb 0) in
        rw (spell_more room (b - 128 + 128 * m) t, rest) (suc-le-suc ih)

pub spell_pos : (room n : ℕ) → 0 < length (spell room n)
unfolding spell
spell_pos zero n = suc-le-suc zero-le
spell_pos (suc room) n = go (ltb n 128)
  where
    go : (t : Bool) → 0 < length (cond t (n ∷ []) ((128 + n % 128) ∷ spell room (n / 128)))
    go true = suc-le-suc zero-le
    go false = suc-le-suc zero-le

-- A spelling in bytes that is as short is the same.
pub spell_only : (room : ℕ) {n : ℕ} {bs : List ℕ} → Groups n bs → ((i : ℕ) → get_or bs i 0 < 256) → length bs ≡ length (spell room n) → bs ≡ spell room n
spell_only room {n} (last h) hb e = rw (spell_one room n h)
spell_only zero (more h g) hb e = absurd (omega (arith, groups_pos g, rw spell_zero at e))
spell_only (suc room) (more {b} {n = m} {bs} h g) hb e = go (λ same. spell_only room g (λ i. hb (suc i)) same) (size (b - 128 + 128 * m))
  where
    go : (length bs ≡ length (spell room m) → bs ≡ spell room m) → Size (b - 128 + 128 * m) → b ∷ bs ≡ spell (suc room) (b - 128 + 128 * m)
    go ih (small t) = absurd (omega (arith, groups_pos g, rw (spell_one (suc room) (b - 128 + 128 * m) t) at e))
    go ih (large t) =
        let rest : (b - 128 + 128 * m) / 128 ≡ m = omega (arith, hb 0) in
        let first : 128 + (b - 128 + 128 * m) % 128 ≡ b = omega (arith, hb 0) in
        let same : length bs ≡ length (spell room m) = omega (arith, rw (spell_more room (b - 128 + 128 * m) t, rest) at e) in
        rw (spell_more room (b - 128 + 128 * m) t, rest, first) (ap {B = List ℕ} (λ l. b ∷ l) (ih same))

-- What at most room + 1 bytes spell, the last of so many being 0 or 1, fits 1 + 7 * room bits.
pub groups_fit : (room : ℕ) {n : ℕ} {bs : List ℕ} → Groups n bs → length bs ≤ suc room → get_or bs room 0 ≤ 1 → ((i : ℕ) → get_or bs i 0 < 256)
    → n < 2 ^ (1 + 7 * room)
groups_fit zero (last h) few tenth hb = omega arith
groups_fit (suc room) (last h) few tenth hb = omega (arith, digit' room, pow_pos (1 + 7 * room))
groups_fit zero (more h g) few tenth hb = absurd (omega (arith, groups_pos g))
groups_fit (suc room) (more h g) few tenth hb =
    omega (arith, digit' room, hb 0, groups_fit room g (le_of_suc-le-suc few) tenth (λ i. hb (suc i)))

-- a number of 64 bits has at most ten digits
pub shortest_few : (n : ℕ) → n < 2 ^ 64 → length (shortest n) ≤ 10
unfolding shortest
shortest_few n h = (spell_good 9 n h).few
