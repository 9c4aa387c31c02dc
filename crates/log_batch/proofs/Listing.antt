-- A list of items is read exactly when it is spelled, within the limits.
-- Assumes nothing.
use Rattle.std.proofs.Common.{◌≡◌, ℕ, zero, suc, ◌+◌, ◌<◌, ◌≤◌, List, [], ◌++◌, length, drop, refl, zero-add, arith, length-append, le-leb}
use Rattle.log_item.specs.declared.Form.{Form}
use Rattle.log_item.specs.declared.Form.TheVariants.{Any}
use Rattle.log_item.specs.declared.LogItem.{LogItem}
use Rattle.log_item.specs.declared.EntryIndex.{EntryIndex}
use Rattle.log_item.specs.Each.{Each}
use Rattle.log_item.specs.Each as every
use Rattle.log_item.specs.Limits.{RowFits}
use Rattle.log_batch.specs.Limits.{Within}
use Rattle.log_item.specs.Spelling.{NumberIn}
use Rattle.log_batch.specs.Spelling.{Items, end, then, Spells, list}
use Rattle.log_batch.specs.Acceptable.{Begins}
use Rattle.log_batch.specs.Rows.{Joined, Indexed}
use Rattle.log_batch.specs.Rows as lie
use Rattle.words.specs.Place.{At, Found}
use Rattle.log_item.specs.ItemSpelled.{Asks}
use Rattle.refusal.specs.declared.Reason.TheVariants.{ItemsTooMany}
use Rattle.log_item.proofs.Holds.{Holds, holds, after, at_most}
use Rattle.words.proofs.Place.{join, cut, at_nothing, at_front}
use Rattle.log_item.proofs.Numbers.{complete_number, sound_number, number_some, in_any}
use Rattle.log_batch.proofs.Rows.{item_length, item_joined, item_consecutive, joined_append}
use Rattle.log_item.proofs.Every.{each_append, each_split}
use Rattle.log_item.proofs.Complete.{complete_item}
use Rattle.log_item.proofs.Sound.{sound_item}
use Rattle.log_item.proofs.Forms.{item_as}
use Rattle.log_batch.specs.Reading.{accepted, items, count, read_items}
use Rattle.log_batch.proofs.Accepts.{Accepts, accepts, in_front_lem, counting, weaken, accepts_more}

module _ (form : Form) {s : List ℕ} where
  -- Items that are spelled, within the limits and with e entries before them, are read.
  pub complete_items : (i e : ℕ) {xs : List LogItem} {rows : List EntryIndex} {t u p : ℕ} {bytes : List ℕ} → Items (NumberIn form) xs rows t u p bytes
      → Each RowFits rows → e + length rows ≤ 1024 → {q : ℕ} → At s p q bytes → items form s (length xs) i e t p ≡ accepted xs rows u q
  unfolding items
  complete_items i e {p = p} end each few {q} f = let z : p ≡ q = omega (arith, f.ends) in rw z
  complete_items i e (then {rows = rows} {more = more} {bytes = bytes} x g) each few f =
      let c = cut bytes f in
      let h : e + length rows + length more ≤ 1024 = omega (arith, length-append rows more) in
      let k : e + length rows ≤ 1024 = omega arith in
      let parts = each_split rows each in
      rw (complete_item form e x parts.0 k c.0, complete_items (i + 1) (e + length rows) g parts.1 h c.1)

  -- A list that is spelled at the front, within the limits, is read.
  pub complete_at : {xs : List LogItem} {rows : List EntryIndex} {u q : ℕ} {bytes : List ℕ} → Spells (NumberIn form) xs rows u bytes → Within xs rows → At s 0 q bytes
      → read_items form s ≡ accepted xs rows u q
  unfolding read_items count
  complete_at (list {count = count} num g) w f =
      let c = rw zero-add at (cut count f) in
      rw (complete_number form num c.0, le-leb _ _ w.items, complete_items 0 0 g w.each (omega (arith, w.entries)) c.1)

-- A list that spells a beginning, within the limits, is read.
pub complete : (form : Form) {s : List ℕ} {xs : List LogItem} {rows : List EntryIndex} {u : ℕ} {bytes : List ℕ} → Begins form s xs rows u bytes
    → read_items form s ≡ accepted xs rows u (length bytes)
complete form {bytes = bytes} b = rw b.split (complete_at form b.spells b.within (at_front bytes b.ignored))

-- What is spelled where k items are read, with e entries and the total t before them.
pub record ItemsSpelled (form : Form) (k e t p : ℕ) (xs : List LogItem) (rows : List EntryIndex) (u : ℕ) (x : List ℕ) : Type 0 where
  pub spelled : Items (NumberIn form) xs rows t u p x
  pub each : Each RowFits rows
  pub few : e + length rows ≤ 1024
  pub long : length xs ≡ k

module _ (form : Form) (s : List ℕ) (asks : Asks form s) where
  -- Items that are read are spelled, within the limits.
  pub sound_items : (k i e t p : ℕ) → e ≤ 1024 → Accepts (λ xs rows u q. Found s (ItemsSpelled form k e t p xs rows u) p q) (items form s k i e t p)
  unfolding items
  sound_items zero i e t p small =
      accepts (record { bytes = []; at = at_nothing p; has = record { spelled = end; each = every.Each.none; few = omega arith; long = refl } })
  sound_items (suc k) i e t p small =
      in_front_lem _ _ (sound_item form s asks e t p small) λ r a f.
      accepts_more _ _ (sound_items k (i + 1) (e + length r.rows) r.total a f.has.few) λ xs more u q g.
      record {
        bytes = f.bytes ++ g.bytes;
        at = join f.at g.at;
        has = record {
          spelled = then f.has.spelled (rw f.at.ends at g.has.spelled);
          each = each_append f.has.each g.has.each;
          few = omega (arith, length-append r.rows more, g.has.few);
          long = omega (arith, g.has.long);
        };
      }

  -- A count that is read is spelled, and at most 256.
  pub sound_count : Holds (λ k q. Found s (NumberIn form k) 0 q × (k ≤ 256)) (count form s 0)
  unfolding count
  sound_count = after (sound_number form s asks 0) λ k q f. at_most k 256 ItemsTooMany _ _ λ few. holds (f, few)

  -- A list that is read spells a beginning, within the limits, and the place after it is where the beginning ends.
  pub sound : Accepts (λ xs rows u q. (bytes : List ℕ) × Begins form s xs rows u bytes × (q ≡ length bytes)) (read_items form s)
  unfolding read_items
  sound =
      counting sound_count λ k a f.
      let at_end : a ≡ length f.0.bytes = omega (arith, f.0.at.ends) in
      weaken (sound_items k 0 0 0 a (omega arith)) λ xs rows u q g.
      let whole = join f.0.at g.at in (
        f.0.bytes ++ g.bytes,
        record {
          ignored = drop q s;
          split = whole.stand;
          spells = list (rw (← g.has.long) at f.0.has) (rw at_end at g.has.spelled);
          within = record { items = omega (arith, g.has.long); entries = omega (arith, g.has.few); each = g.has.each };
        },
        omega (arith, whole.ends),
      )

-- A list that is spelled has a byte, its count's.
pub spells_some : (form : Form) {xs : List LogItem} {rows : List EntryIndex} {u : ℕ} {bytes : List ℕ} → Spells (NumberIn form) xs rows u bytes → 0 < length bytes
spells_some form (list {count = count} {bytes = bytes} num g) = omega (arith, number_some form _ count num, length-append count bytes)

module _ {N : ℕ → List ℕ → Type 0} where
  -- The entry spans of items start at the total before them, each where the one before ended.
  pub items_joined : {xs : List LogItem} {rows : List EntryIndex} {t u p : ℕ} {bytes : List ℕ} → Items N xs rows t u p bytes → Joined t u rows
  items_joined end = lie.Joined.end
  items_joined (then x g) = joined_append (item_joined x) (items_joined g)

  -- Each item's rows are as many as it states, with consecutive indexes.
  pub items_indexed : {xs : List LogItem} {rows : List EntryIndex} {t u p : ℕ} {bytes : List ℕ} → Items N xs rows t u p bytes → Indexed xs rows
  items_indexed end = lie.Indexed.end
  items_indexed (then x g) = lie.Indexed.then (item_length x) (item_consecutive x) (items_indexed g)

module _ (N M : ℕ → List ℕ → Type 0) (f : (n : ℕ) (x : List ℕ) → N n x → M n x) where
  -- Where numbers of N are numbers of M, so are items and lists.
  pub items_as : {xs : List LogItem} {rows : List EntryIndex} {t u p : ℕ} {bytes : List ℕ} → Items N xs rows t u p bytes → Items M xs rows t u p bytes
  items_as end = end
  items_as (then x g) = then (item_as N M f x) (items_as g)

  pub spells_as : {xs : List LogItem} {rows : List EntryIndex} {u : ℕ} {bytes : List ℕ} → Spells N xs rows u bytes → Spells M xs rows u bytes
  spells_as (list num g) = list (f _ _ num) (items_as g)

-- A beginning that is spelled in a form is spelled.
pub begins_any : (form : Form) {s : List ℕ} {xs : List LogItem} {rows : List EntryIndex} {u : ℕ} {bytes : List ℕ} → Begins form s xs rows u bytes
    → Begins Any s xs rows u bytes
begins_any form b = record { ignored = b.ignored; split = b.split; spells = spells_as (NumberIn form) (NumberIn Any) (in_any form) b.spells; within = b.within }
