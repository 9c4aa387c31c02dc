-- Which refusal reading a command, a key, entries, a tail and a content gives, and where.
-- Assumes nothing.
use Prim.Native.Nat.{ℕ, zero, suc, ◌+◌, ◌-◌, ◌≤◌, ◌<◌}
use mathlib.Core.Path.{◌≡◌, refl}
use mathlib.Core.List.{List}
use native.Mathlib.Omega.{arith}
use borrow.Author.Tests.{le-leb, lt-leb, ne_eqb}
use Rattle.log_item.specs.Got.{got, refused}
use Rattle.log_item.specs.Pieces.{byte, number}
use Rattle.log_item.specs.Reading.{command, key_value_of, first_index_of, entry_count_of, content, tail}
use Rattle.log_item.specs.declared.Form.{Form}
use Rattle.refusal.specs.declared.Reason.TheVariants.{CommandUnknown, EntriesTooMany, IndexTooLarge, ItemTypeUnknown, OpUnknown, TailFalls, TailTooLarge}

module _ (form : Form) (s : List ℕ) (p : ℕ) where
  module _ {b q : ℕ} (e : byte s p ≡ got b q) (k : b ≡ 1 → ⊥) (l : b ≡ 2 → ⊥) where
    -- neither 1 nor 2
    pub command_unknown : refused CommandUnknown ≡ command form s p
    unfolding command
    command_unknown = rw (e, ne_eqb _ _ k, ne_eqb _ _ l)

    pub key_unknown : refused OpUnknown ≡ key_value_of form s p
    unfolding key_value_of
    key_unknown = rw (e, ne_eqb _ _ k, ne_eqb _ _ l)

  module _ {n q : ℕ} (e : number form s p ≡ got n q) where
    -- entries so far and this count are above 1,024
    pub count_many : (used : ℕ) → 1024 < used + n → refused EntriesTooMany ≡ entry_count_of form s used p
    unfolding entry_count_of
    count_many used h = rw (e, lt-leb _ _ h)

    -- of m entries, the last of the indexes from n on
    pub first_too_large : (m : ℕ) → (m ≡ 0 → ⊥) → 18446744073709551615 < n + (m - 1) → refused IndexTooLarge ≡ first_index_of form s m p
    unfolding first_index_of
    first_too_large zero some h = absurd (some refl)
    first_too_large (suc m) some h = let k : 18446744073709551615 < n + m = omega arith in rw (e, lt-leb _ _ k)

    -- a tail, with the total t before it
    pub tail_large : (t : ℕ) → 4294967295 < n → refused TailTooLarge ≡ tail form s t p
    unfolding tail
    tail_large t h = rw (e, lt-leb _ _ h)

    pub tail_falls : (t : ℕ) → n ≤ 4294967295 → n < t → refused TailFalls ≡ tail form s t p
    unfolding tail
    tail_falls t h k = rw (e, le-leb _ _ h, lt-leb _ _ k)

  -- neither 1 nor 2 nor 3
  pub content_unknown : (used b : ℕ) → (b ≡ 1 → ⊥) → (b ≡ 2 → ⊥) → (b ≡ 3 → ⊥) → refused ItemTypeUnknown ≡ content form s used b p
  unfolding content
  content_unknown used b k l m = rw (ne_eqb _ _ k, ne_eqb _ _ l, ne_eqb _ _ m)
