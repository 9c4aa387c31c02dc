-- The loops that fill the table: what they know before each turn, how a turn keeps that, and what the reading answers at each way out.
-- Assumes nothing.
use Rattle.std.proofs.Common.{◌≡◌, ℕ, suc, ◌+◌, ◌-◌, ◌%◌, ◌^◌, ◌<◌, ◌≤◌, List, [], ◌∷◌, length, take, set, replicate, sym, ap, ◌∙◌, append-nil, arith}
use Rattle.refusal.specs.declared.Reason.{Reason}
use Rattle.log_item.specs.Got.{got, refused}
use Rattle.log_item.specs.Entries.{entries_of, tail_row}
use Rattle.log_item.specs.Reading.{head, tail, tails}
use Rattle.log_item.specs.declared.Form.TheVariants.{Any}
use Rattle.log_item.specs.declared.LogItem.{LogItem}
use Rattle.log_item.specs.declared.EntryIndex.{EntryIndex}
use Rattle.log_item.specs.declared.EntryIndexes.{EntryIndexes}
use Rattle.log_item.proofs.Known.{tail_known, head_known, head_room}
use Rattle.log_batch.specs.Reading.{accepted, rejected, items, count, read_items}
use Rattle.log_batch.proofs.Checking.{some_counted, counted_few}
use Rattle.log_item.specs.Blank.{blank_item, blank_entry}
use Rattle.log_batch.proofs.FilledRows.{FilledRows, rows_none, rows_set, rows_take}
use Rattle.log_batch.proofs.Coming.{prepend, behind, rest, prepend_none, prepend_item, prepend_row, row_suc, bad_suc, rest_zero, item_suc, no_item}

-- k items are wanted, i are in the table xs, and j rows in the table rows; n tails are left of the item before, the first of them with the
-- index and the total t before it. What is in the tables and what is still to come from p on are the whole answer.
pub record Filling (s : List ℕ) (k : ℕ) (xs : List LogItem) (rows : List EntryIndex) (i j p t n index : ℕ) : Type 0 where
  pub most : i ≤ k
  pub few : k ≤ 256
  pub room : j + n ≤ 1024
  pub low : t ≤ 4294967295
  pub wraps : 0 < n → index + n ≤ 2 ^ 64
  pub filled_items : FilledRows blank_item 256 i xs
  pub filled_rows : FilledRows blank_entry 1024 j rows
  pub so_far : prepend (take i xs) (take j rows) (rest s k i j p t n index) ≡ read_items Any s

-- ---- the count

pub begun : (s : List ℕ) {k q : ℕ} → count Any s 0 ≡ got k q → Filling s k (replicate 256 blank_item) (replicate 1024 blank_entry) 0 0 q 0 0 0
begun s {k} {q} e =
    let all : k - 0 ≡ k = omega arith in
    record {
      most = omega arith;
      few = counted_few Any s e;
      room = omega arith;
      low = omega arith;
      wraps = λ some. absurd (omega arith);
      filled_items = rows_none 256;
      filled_rows = rows_none 1024;
      so_far =
          prepend_none _ ∙ rest_zero s k 0 0 q 0 0 ∙ ap (λ (m : ℕ). items Any s m 0 0 0 q) all ∙ sym (some_counted Any s e);
    }

-- ---- the turns

module _ {s : List ℕ} {k : ℕ} {xs : List LogItem} {rows : List EntryIndex} {i j p t n index : ℕ} (f : Filling s k xs rows i j p t n index) where
  module _ {m : ℕ} (one : n ≡ suc m) where
    one_tail : rest s k i j p t n index ≡ rest s k i j p t (suc m) index
    one_tail = ap (λ (l : ℕ). rest s k i j p t l index) one

    -- A tail was read: its row is stored.
    pub next_row_lem : {w q other : ℕ} → tail Any s t p ≡ got w q → other ≡ (index + 1) % 2 ^ 64
        → Filling s k xs (set rows j (tail_row index t w)) i (j + 1) q w m other
    next_row_lem {w} {q} {other} e h =
        let fits = f.wraps (omega arith) in
        let below : j < 1024 = omega (arith, f.room) in
        record {
          most = f.most;
          few = f.few;
          room = omega (arith, f.room);
          low = (tail_known Any s t p e).1;
          wraps = λ more. omega arith;
          filled_items = f.filled_items;
          filled_rows = rows_set f.filled_rows (tail_row index t w) below;
          so_far =
              rw (rows_take f.filled_rows (tail_row index t w) below)
              (sym (prepend_row (take i xs) (take j rows) (tail_row index t w) (rest s k i (j + 1) q w m other))
              ∙ ap (prepend (take i xs) (take j rows)) (sym (one_tail ∙ row_suc s k i j p t m index other w q e (λ more. omega arith)))
              ∙ f.so_far);
        }

    -- A tail was refused: in the item before.
    pub filling_row_refused : {l : ℕ} {r : Reason} → i ≡ l + 1 → tail Any s t p ≡ refused r → read_items Any s ≡ rejected r l
    filling_row_refused {l} {r} before e =
        let place : i - 1 ≡ l = omega arith in
        sym f.so_far ∙ ap (prepend (take i xs) (take j rows)) (one_tail ∙ bad_suc s k i j p t m index e) ∙ ap (rejected r) place

  module _ (done : n ≡ 0) where
    no_tail : rest s k i j p t n index ≡ items Any s (k - i) i j t p
    no_tail = ap (λ (m : ℕ). rest s k i j p t m index) done ∙ rest_zero s k i j p t index

    -- No tail is left.
    pub tails_ended : Filling s k xs rows i j p t 0 0
    tails_ended =
        record {
          most = f.most;
          few = f.few;
          room = omega (arith, f.room);
          low = f.low;
          wraps = λ some. absurd (omega arith);
          filled_items = f.filled_items;
          filled_rows = f.filled_rows;
          so_far = ap (prepend (take i xs) (take j rows)) (rest_zero s k i j p t 0 ∙ sym no_tail) ∙ f.so_far;
        }

    -- No item is left: the answer is what is in the tables.
    pub ended : k ≤ i → read_items Any s ≡ accepted (take i xs) (take j rows) t p
    unfolding items
    ended h =
        let zero : k - i ≡ 0 = omega arith in
        sym f.so_far ∙ ap (prepend (take i xs) (take j rows)) (no_tail ∙ ap (λ (m : ℕ). items Any s m i j t p) zero)
        ∙ rw (append-nil, append-nil)

    module _ (some : i < k) where
      one_item_lem : rest s k i j p t n index ≡ items Any s (suc (k - (i + 1))) i j t p
      one_item_lem =
          let one : k - i ≡ suc (k - (i + 1)) = omega arith in
          no_tail ∙ ap (λ (m : ℕ). items Any s m i j t p) one

      -- A head was read: its item is stored, and its tails are to come.
      pub next_item : {x : LogItem} {q m : ℕ} {d : EntryIndexes} → head Any s j p ≡ got x q → d ≡ entries_of x.content → m ≡ d.count
          → Filling s k (set xs i x) rows (i + 1) j q t m d.first_index
      unfolding rest
      next_item {x} {q} {m} {d} e h l =
          let below : i < 256 = omega (arith, f.few) in
          let few : j ≤ 1024 = omega (arith, f.room) in
          let fits = head_room Any s j p e h 1024 few (omega arith) in
          let same : i ≡ i + 1 - 1 = omega arith in
          let last = rw (← h) at (head_known Any s j p e).last in
          rw l
          (record {
            most = omega arith;
            few = f.few;
            room = fits;
            low = f.low;
            wraps = last;
            filled_items = rows_set f.filled_items x below;
            filled_rows = f.filled_rows;
            so_far =
                rw (rows_take f.filled_items x below)
                (sym (prepend_item (take i xs) (take j rows) x (rest s k (i + 1) j q t d.count d.first_index))
                ∙ ap (prepend (take i xs) (take j rows))
                (sym
                (one_item_lem ∙ item_suc s k i j p t (k - (i + 1)) e h
                ∙ ap
                (λ (m : ℕ).
                prepend (x ∷ []) []
                (behind m (tails Any s d.count d.first_index t q) (λ rows u z. items Any s (k - (i + 1)) (i + 1) (j + length rows) u z)))
                same))
                ∙ f.so_far);
          })

      -- A head was refused.
      pub filling_item_refused : {r : Reason} → head Any s j p ≡ refused r → read_items Any s ≡ rejected r i
      filling_item_refused e = sym f.so_far ∙ ap (prepend (take i xs) (take j rows)) (one_item_lem ∙ no_item s k i j p t (k - (i + 1)) e)
