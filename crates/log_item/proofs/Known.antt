-- What holds of each piece that was got.
-- Assumes nothing.
use Prim.Native.Nat.{ℕ, zero, suc, ◌+◌, ◌^◌, ◌≤◌, ◌<◌}
use mathlib.Core.Path.{◌≡◌, refl}
use mathlib.Core.List.{List}
use native.Mathlib.Omega.{arith}
use native.Mathlib.Nat.{eq-zero-or-pos}
use mathlib.Core.Logic.{⊎_elim}
use lib.Dec.{eqb}
use Rattle.log_item.specs.Got.{got}
use Rattle.log_item.specs.Entries.{entries_of}
use Rattle.log_item.specs.Pieces.{byte, number}
use Rattle.log_item.specs.Reading.{command, key_value_of, first_index_of, entry_count_of, entry_indexes, content, head, tail}
use Rattle.log_item.specs.declared.Form.{Form}
use Rattle.log_item.specs.declared.EntryIndexes.{EntryIndexes}
use Rattle.log_item.specs.declared.LogItem.{LogItem}
use Rattle.refusal.specs.declared.Reason.TheVariants.{EntriesTooMany, IndexTooLarge, TailFalls, TailTooLarge}
use Rattle.log_item.proofs.Holds.{Holds, holds, refuses, after, later, at_most, chosen, of_got}

-- entries that may follow e others: what is stated of them where there is one
pub record EntriesFit (e : ℕ) (x : EntryIndexes) : Type 0 where
  pub few : 0 < x.count → e + x.count ≤ 1024
  pub last : 0 < x.count → x.first_index + x.count ≤ 2 ^ 64

module _ (form : Form) (s : List ℕ) where
  tail_holds : (t p : ℕ) → Holds (λ w q. (t ≤ w) × (w ≤ 4294967295)) (tail form s t p)
  unfolding tail
  tail_holds t p = later (number form s p) λ w q. at_most w 4294967295 TailTooLarge _ q λ h. at_most t w TailFalls _ q λ k. holds (k, h)

  -- A tail is neither below the total before it nor above 32 bits.
  pub tail_known : (t p : ℕ) {w q : ℕ} → tail form s t p ≡ got w q → (t ≤ w) × (w ≤ 4294967295)
  tail_known t p e = of_got (tail_holds t p) e

  first_holds : (e n p : ℕ) → e + n ≤ 1024 → Holds (λ x q. EntriesFit e x) (first_index_of form s n p)
  unfolding first_index_of
  first_holds e zero p h = holds (record { few = λ _. h; last = λ k. absurd (omega arith) })
  first_holds e (suc n) p h =
      later (number form s p) λ i q. at_most (i + n) 18446744073709551615 IndexTooLarge _ q λ k. holds (record { few = λ _. h; last = λ _. omega arith })

  count_holds : (e p : ℕ) → Holds (λ n q. e + n ≤ 1024) (entry_count_of form s e p)
  unfolding entry_count_of
  count_holds e p = later (number form s p) λ n q. at_most (e + n) 1024 EntriesTooMany _ q λ h. holds h

  -- Counted entries are among the first 1,024 of the batch.
  pub count_known : (e p : ℕ) {n q : ℕ} → entry_count_of form s e p ≡ got n q → e + n ≤ 1024
  count_known e p k = of_got (count_holds e p) k

  as_counted : (n p : ℕ) → Holds (λ x q. x.count ≡ n) (first_index_of form s n p)
  unfolding first_index_of
  as_counted zero p = holds refl
  as_counted (suc n) p = later (number form s p) λ i q. at_most (i + n) 18446744073709551615 IndexTooLarge _ q λ k. holds refl

  -- As many entries as were counted.
  pub first_count : (n p : ℕ) {x : EntryIndexes} {q : ℕ} → first_index_of form s n p ≡ got x q → x.count ≡ n
  first_count n p k = of_got (as_counted n p) k

  entries_hold : (e p : ℕ) → Holds (λ x q. EntriesFit e x) (entry_indexes form s e p)
  unfolding entry_indexes
  entries_hold e p = after (count_holds e p) λ n q h. first_holds e n q h

  content_holds : (e b p : ℕ) → Holds (λ c q. EntriesFit e (entries_of c)) (content form s e b p)
  unfolding content
  content_holds e b p =
      chosen (eqb b 1) _ _ p (λ _. after (entries_hold e p) λ x q h. holds h)
      (chosen (eqb b 2) _ _ p (λ _. later (command form s p) λ x q. holds none)
      (chosen (eqb b 3) _ _ p (λ _. later (key_value_of form s p) λ x q. holds none) refuses))
    where
      none : EntriesFit e (record { count = 0; first_index = 0 })
      none = record { few = λ k. absurd (omega arith); last = λ k. absurd (omega arith) }

  head_holds : (e p : ℕ) → Holds (λ x q. EntriesFit e (entries_of x.content)) (head form s e p)
  unfolding head
  head_holds e p = later (number form s p) λ g q. later (byte s q) λ b z. after (content_holds e b z) λ c y h. holds h

  module _ (e p : ℕ) {x : LogItem} {q : ℕ} (k : head form s e p ≡ got x q) where
    -- An item's entries are among the first 1,024 of the batch, and the last has an index of 64 bits.
    pub head_known : EntriesFit e (entries_of x.content)
    head_known = of_got (head_holds e p) k

    -- With them there are no more than before, or no more than 1,024.
    pub head_room : {d : EntryIndexes} → d ≡ entries_of x.content → (m : ℕ) → e ≤ m → 1024 ≤ m → e + d.count ≤ m
    head_room {d} f m h l = rw f (go (entries_of x.content) head_known)
      where
        go : (d : EntryIndexes) → EntriesFit e d → e + d.count ≤ m
        go d g = ⊎_elim (λ (z : d.count ≡ 0). omega arith) (λ (z : 0 < d.count). omega (arith, g.few z)) (eq-zero-or-pos d.count)
