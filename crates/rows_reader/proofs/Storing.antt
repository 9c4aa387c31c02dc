-- The loops that store rows: what they know before each turn, how a turn keeps that, and that there is room for each row. They are the loops
-- that fill a table, with the table's rows stored as words.
-- Assumes nothing.
use Rattle.std.proofs.Common.{◌≡◌, ℕ, suc, ◌+◌, ◌-◌, ◌*◌, ◌%◌, ◌^◌, ◌<◌, ◌≤◌, Bool, true, false, leb, List, [], ◌++◌, length, take, drop, set, replicate, sym, refl, ap, ◌∙◌, arith, length-append, length-drop, take_at, drop_at, drop-drop}
use mathlib.Core.List.{flat_map, append_assoc}
use Rattle.refusal.specs.declared.Reason.{Reason}
use Rattle.refusal.specs.declared.Reason.TheVariants.{ItemsTooMany}
use Rattle.log_item.specs.Got.{got, refused}
use Rattle.log_item.specs.Pieces.{number}
use Rattle.log_item.specs.Entries.{entries_of, tail_row}
use Rattle.log_item.specs.Reading.{head, tail}
use Rattle.log_item.specs.Blank.{blank_item, blank_entry}
use Rattle.log_item.specs.declared.Form.TheVariants.{Any}
use Rattle.log_item.specs.declared.LogItem.{LogItem}
use Rattle.log_item.specs.declared.EntryIndex.{EntryIndex}
use Rattle.log_item.specs.declared.EntryIndexes.{EntryIndexes}
use Rattle.item_row.specs.Row.{item_words, entry_words, items_words, entries_words}
use Rattle.item_row.proofs.Words.{item_words_length, items_words_length, entries_words_length, flat_more}
use Rattle.log_batch.specs.Reading.{Answer, accepted, rejected, count, read_items}
use Rattle.log_batch.proofs.FilledRows.{rows_take, rows_length}
use Rattle.log_batch.proofs.Coming.{prepend, rest}
use Rattle.log_batch.proofs.Filling.{Filling, begun, next_row_lem, filling_row_refused, tails_ended, ended, next_item, filling_item_refused}
use Rattle.rows_reader.specs.Lent.{Filled}
use Rattle.rows_reader.specs.Private.{Fits}

-- ---- words, and then what stood there

pub record Laid (lent words later : List ℕ) : Type 0 where
  pub room : length words ≤ length lent
  pub stands : later ≡ words ++ drop (length words) lent

pub laid_none : (lent : List ℕ) → Laid lent [] lent
laid_none lent = record { room = omega arith; stands = refl }

pub laid_length : {lent words later : List ℕ} → Laid lent words later → length later ≡ length lent
laid_length {lent} {words} w = omega (arith, ap length w.stands, length-append words (drop (length words) lent), length-drop (length words) lent, w.room)

-- More words, placed behind them.
pub laid_more : {lent words mid later : List ℕ} {at : ℕ} (more : List ℕ) → Laid lent words mid → at ≡ length words → at + length more ≤ length mid
    → later ≡ take at mid ++ more ++ drop (at + length more) mid → Laid lent (words ++ more) later
laid_more {lent} {words} {mid} {later} {at} more w here fits e =
    let long : length words + length more ≡ length (words ++ more) = sym (length-append words more) in
    record {
      room = omega (arith, laid_length w, long);
      stands =
          e
          ∙ rw (w.stands, take_at words (drop (length words) lent) at (sym here), ← drop-drop (length more) at (words ++ drop (length words) lent))
          (rw (drop_at words (drop (length words) lent) at (sym here), drop-drop (length more) (length words) lent, long));
    }

-- What stands in a part, where the part is stored.
pub part_stored : (at n : ℕ) (lent : List ℕ) {part words : List ℕ} → part ≡ words
    → take at lent ++ (part ++ drop (at + n - at) (drop at lent)) ≡ take at lent ++ words ++ drop (at + n) lent
part_stored at n lent {part} {words} e =
    let long : at + n - at ≡ n = omega arith in
    rw (long, drop-drop n at lent, e) (sym (append_assoc (take at lent) words (drop (at + n) lent)))

-- ---- a body that is accepted

module _ {s items entries : List ℕ} (f : Fits s items entries) where
  -- It is not refused.
  never : {A : Type 0} {r : Reason} {i : ℕ} → read_items Any s ≡ rejected r i → A
  never e = let g = f.reads in absurd (cc)

  pub number_never : {A : Type 0} {r : Reason} → number Any s 0 ≡ refused r → A
  unfolding read_items count
  number_never {r = r} e = never {r = r} {i = 0} (rw e)

  -- It has at most 256 items.
  pub counted_lem : {k q : ℕ} → number Any s 0 ≡ got k q → count Any s 0 ≡ got k q
  unfolding read_items count
  counted_lem {k} {q} e = go (leb k 256) refl
    where
      go : (b : Bool) → leb k 256 ≡ b → count Any s 0 ≡ got k q
      go true h = rw (e, h)
      go false h = never {r = ItemsTooMany} {i = 0} (rw (e, h))

-- What stands in front of something is not longer than the whole.
in_front_lem : (xs : List LogItem) (rows : List EntryIndex) (a : Answer) {all : List LogItem} {more : List EntryIndex} {u q : ℕ}
    → prepend xs rows a ≡ accepted all more u q → (length xs ≤ length all) × (length rows ≤ length more)
in_front_lem xs rows (accepted ys others v z) {all} {more} e =
    let p : xs ++ ys ≡ all = cc in
    let q : rows ++ others ≡ more = cc in
    (omega (arith, length-append xs ys, ap length p), omega (arith, length-append rows others, ap length q))
in_front_lem xs rows (rejected r i) e = absurd (cc)

-- ---- the turns

-- What `Filling` says of a table, whose i items and j rows so far are the words in what is lent.
pub record Storing (s items₀ entries₀ : List ℕ) (k : ℕ) (items entries : List ℕ) (i j p t n index : ℕ) : Type 0 where
  pub table : List LogItem
  pub lines : List EntryIndex
  pub filling : Filling s k table lines i j p t n index
  pub item_rows : Laid items₀ (items_words (take i table)) items
  pub entry_rows : Laid entries₀ (entries_words (take j lines)) entries

module _ {s items₀ entries₀ : List ℕ} (f : Fits s items₀ entries₀) where
  pub storing_start : {k q : ℕ} → number Any s 0 ≡ got k q → Storing s items₀ entries₀ k items₀ entries₀ 0 0 q 0 0 0
  unfolding flat_map
  storing_start e =
      record {
        table = replicate 256 blank_item;
        lines = replicate 1024 blank_entry;
        filling = begun s (counted_lem f e);
        item_rows = laid_none items₀;
        entry_rows = laid_none entries₀;
      }

  module _ {k : ℕ} {items entries : List ℕ} {i j p t n index : ℕ} (w : Storing s items₀ entries₀ k items entries i j p t n index) where
    module _ {m : ℕ} (one : n ≡ suc m) where
      pub row_never : {A : Type 0} (l : ℕ) {r : Reason} → i ≡ l + 1 → tail Any s t p ≡ refused r → A
      row_never l before e = never f (filling_row_refused w.filling one {l = l} before e)

      module _ {u q : ℕ} (e : tail Any s t p ≡ got u q) where
        row_after : Filling s k w.table (set w.lines j (tail_row index t u)) i (j + 1) q u m ((index + 1) % 2 ^ 64)
        row_after = next_row_lem w.filling one e refl

        pub row_room : j * 3 + 3 ≤ length entries
        row_room =
            let g = row_after in
            let h = in_front_lem _ _ (rest s k i (j + 1) q u m ((index + 1) % 2 ^ 64)) (g.so_far ∙ f.reads) in
            let l = rows_length g.filled_rows (omega (arith, w.filling.room)) in
            omega (arith, h.1, f.entry_room, laid_length w.entry_rows)

        pub storing_row : {at : ℕ} {later : List ℕ} → at ≡ j * 3 → later ≡ take at entries ++ entry_words (tail_row index t u) ++ drop (at + 3) entries
            → Storing s items₀ entries₀ k items later i (j + 1) q u m ((index + 1) % 2 ^ 64)
        unfolding entry_words
        storing_row {at} {later} here l =
            let few : j ≤ 1024 = omega (arith, w.filling.room) in
            let below : j < 1024 = omega (arith, w.filling.room) in
            let so_far : at ≡ length (entries_words (take j w.lines)) = omega (arith, here, entries_words_length (take j w.lines), rows_length w.filling.filled_rows few) in
            let fits : at + 3 ≤ length entries = omega (arith, here, row_room) in
            record {
              table = w.table;
              lines = set w.lines j (tail_row index t u);
              filling = row_after;
              item_rows = w.item_rows;
              entry_rows =
                  rw (rows_take w.filling.filled_rows (tail_row index t u) below, flat_more entry_words (take j w.lines) (tail_row index t u))
                  (laid_more (entry_words (tail_row index t u)) w.entry_rows so_far fits l);
            }

    module _ (done : n ≡ 0) where
      pub storing_item_done : Storing s items₀ entries₀ k items entries i j p t 0 0
      storing_item_done = record { table = w.table; lines = w.lines; filling = tails_ended w.filling done; item_rows = w.item_rows; entry_rows = w.entry_rows }

      pub stored_all : k ≤ i → Filled (read_items Any s) items₀ entries₀ items entries
      stored_all h =
          let e = ended w.filling done h in
          record { item_rows = rw e w.item_rows.stands; entry_rows = rw e w.entry_rows.stands }

      module _ (some : i < k) where
        pub item_never : {A : Type 0} {r : Reason} → head Any s j p ≡ refused r → A
        item_never e = never f (filling_item_refused w.filling done some e)

        module _ {x : LogItem} {q m : ℕ} {d : EntryIndexes} (e : head Any s j p ≡ got x q) (h : d ≡ entries_of x.content) (all : m ≡ d.count) where
          item_after : Filling s k (set w.table i x) w.lines (i + 1) j q t m d.first_index
          item_after = next_item w.filling done some e h all

          pub item_room : i * 7 + 7 ≤ length items
          item_room =
              let g = item_after in
              let a = in_front_lem _ _ (rest s k (i + 1) j q t m d.first_index) (g.so_far ∙ f.reads) in
              let l = rows_length g.filled_items (omega (arith, w.filling.few)) in
              omega (arith, a.0, f.item_room, laid_length w.item_rows)

          pub storing_item : {at : ℕ} {later : List ℕ} → at ≡ i * 7 → later ≡ take at items ++ item_words x ++ drop (at + 7) items
              → Storing s items₀ entries₀ k later entries (i + 1) j q t m d.first_index
          storing_item {at} {later} here l =
              let few : i ≤ 256 = omega (arith, w.filling.few) in
              let below : i < 256 = omega (arith, w.filling.few) in
              let so_far : at ≡ length (items_words (take i w.table)) = omega (arith, here, items_words_length (take i w.table), rows_length w.filling.filled_items few) in
              let fits : at + length (item_words x) ≤ length items = omega (arith, here, item_room, item_words_length x) in
              record {
                table = set w.table i x;
                lines = w.lines;
                filling = item_after;
                item_rows =
                    rw (rows_take w.filling.filled_items x below, flat_more item_words (take i w.table) x)
                    (laid_more (item_words x) w.item_rows so_far fits (rw (item_words_length x) l));
                entry_rows = w.entry_rows;
              }
