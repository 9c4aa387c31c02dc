-- The tails of an item and their rows: that the indexes change neither the total nor the place, what each turn over the tails does,
-- and what an item comes to.
-- Assumes nothing.
use Prim.Native.Nat.{ℕ, zero, suc, ◌+◌, ◌<◌}
use mathlib.Core.Path.{◌≡◌, refl, sym, ap, ◌∙◌}
use mathlib.Core.List.{List, ◌∷◌}
use native.Mathlib.Omega.{arith}
use lib.ListN.{length}
use Rattle.log_item.specs.Got.{Got, got, refused, Reading, done, bind}
use Rattle.log_item.specs.Entries.{entries_of, tail_row}
use Rattle.log_item.specs.Reading.{Read, head, tail, tails, with_tails, one_item}
use Rattle.log_item.specs.Answers.{counted_item, pass_item}
use Rattle.log_item.specs.Passing.{pass_tails}
use Rattle.log_item.specs.declared.Form.{Form}
use Rattle.log_item.specs.declared.EntryIndex.{EntryIndex}
use Rattle.log_item.specs.declared.EntryIndexes.{EntryIndexes}
use Rattle.log_item.specs.declared.LogItem.{LogItem}
use Rattle.log_item.specs.declared.ItemRead.{ItemRead}
use Rattle.log_item.specs.declared.Passed.{Passed}
use Rattle.refusal.specs.declared.Reason.{Reason}
use Rattle.log_item.proofs.Holds.{Holds, holds, after, later, only, of_got, bind_got}

-- the total alone
abbrev pub total_of : Got (List EntryIndex × ℕ) → Got ℕ
total_of (got r q) = got r.1 q
total_of (refused r) = refused r

-- the item x with its tails at q, and n entries with it, where its rows are passed by
abbrev pub passing : LogItem → ℕ → ℕ → ℕ → Reading ItemRead
passing x q n u = done (record { item = x; tails = q; total = u; used = n })

row_ahead : (x : EntryIndex) (g : Got (List EntryIndex × ℕ)) → total_of (bind g (λ r. done (x ∷ r.0, r.1))) ≡ total_of g
row_ahead x (got r q) = refl
row_ahead x (refused r) = refl

module _ (form : Form) (s : List ℕ) where
  pass_total : (n t p : ℕ) → pass_tails form s n t p ≡ total_of (tails form s n 0 t p)
  unfolding pass_tails
  pass_total n t p = go (tails form s n 0 t p)
    where
      go : (g : Got (List EntryIndex × ℕ)) → bind g (λ r. done r.1) ≡ total_of g
      go (got r q) = refl
      go (refused r) = refl

  -- The indexes of the rows change neither the total nor the place.
  any_index : (n i j t p : ℕ) → total_of (tails form s n i t p) ≡ total_of (tails form s n j t p)
  unfolding tails
  any_index zero i j t p = refl
  any_index (suc n) i j t p = go (λ w q. any_index n (i + 1) (j + 1) w q) (tail form s t p)
    where
      go : ((w q : ℕ) → total_of (tails form s n (i + 1) w q) ≡ total_of (tails form s n (j + 1) w q)) → (g : Got ℕ)
          → total_of (bind g (λ w q. bind (tails form s n (i + 1) w q) (λ r. done (tail_row i t w ∷ r.0, r.1))))
          ≡ total_of (bind g (λ w q. bind (tails form s n (j + 1) w q) (λ r. done (tail_row j t w ∷ r.0, r.1))))
      go ih (got w q) = row_ahead _ (tails form s n (i + 1) w q) ∙ ih w q ∙ sym (row_ahead _ (tails form s n (j + 1) w q))
      go ih (refused r) = refl

  -- Total and place are those of passing by, with rows from any index on.
  pub total_pass : (n i t p : ℕ) → total_of (tails form s n i t p) ≡ pass_tails form s n t p
  total_pass n i t p = any_index n i 0 t p ∙ sym (pass_total n t p)

  -- ---- the turns over the tails

  pub pass_end : {n : ℕ} (t p : ℕ) → n ≡ 0 → got t p ≡ pass_tails form s n t p
  unfolding pass_tails tails
  pass_end t p e = rw e

  pub pass_next : {n m : ℕ} (t p : ℕ) → n ≡ suc m → {w q : ℕ} → tail form s t p ≡ got w q → pass_tails form s m w q ≡ pass_tails form s n t p
  unfolding tails
  pass_next {n} {m} t p k {w} {q} e =
      let one : total_of (tails form s (suc m) 0 t p) ≡ total_of (tails form s m (0 + 1) w q) = rw e (row_ahead _ (tails form s m (0 + 1) w q)) in
      rw k (sym (total_pass m (0 + 1) w q) ∙ sym one ∙ total_pass (suc m) 0 t p)

  pub pass_stop : (n t p : ℕ) → 0 < n → {r : Reason} → tail form s t p ≡ refused r → refused r ≡ pass_tails form s n t p
  unfolding pass_tails tails
  pass_stop zero t p some e = absurd (omega arith)
  pass_stop (suc n) t p some e = rw e

  -- ---- an item

  -- As many rows as tails.
  rows_hold : (n i t p : ℕ) → Holds (λ r q. length r.0 ≡ n) (tails form s n i t p)
  unfolding tails
  rows_hold zero i t p = holds refl
  rows_hold (suc n) i t p = later (tail form s t p) λ w q. after (rows_hold n (i + 1) w q) λ r z h. holds (ap suc h)

  pub as_many_rows : (n i t p : ℕ) {r : List EntryIndex × ℕ} {q : ℕ} → tails form s n i t p ≡ got r q → length r.0 ≡ n
  as_many_rows n i t p e = of_got (rows_hold n i t p) e

  -- Total and number are those of the item with its rows.
  pub pass_one : (used t p : ℕ) → pass_item form s used t p ≡ bind (one_item form s used t p) (λ r. done (record { total = r.total; used = used + length r.rows }))
  unfolding pass_item counted_item one_item
  pass_one used t p = by_head (head form s used p)
    where
      by_item : (q : ℕ) (g : Got Read)
          → bind {A = ItemRead} {B = Passed} (bind g (λ r. done (record { item = r.item; tails = q; total = r.total; used = used + length r.rows }))) (λ r. done (record { total = r.total; used = r.used }))
          ≡ bind g (λ r. done (record { total = r.total; used = used + length r.rows }))
      by_item q (got r z) = refl
      by_item q (refused r) = refl

      by_head : (m : Got LogItem)
          → bind {A = ItemRead} {B = Passed}
          (bind m (λ x q. bind (with_tails form s x t q) (λ r. done (record { item = r.item; tails = q; total = r.total; used = used + length r.rows }))))
          (λ r. done (record { total = r.total; used = r.used }))
          ≡ bind {A = Read} {B = Passed} (bind m (λ x. with_tails form s x t)) (λ r. done (record { total = r.total; used = used + length r.rows }))
      by_head (got x q) = by_item q (with_tails form s x t q)
      by_head (refused r) = refl

  -- An item that was got is its head and the rows of its tails.
  pub item_got_lem : (used t p : ℕ) {y : Read} {z : ℕ} → one_item form s used t p ≡ got y z
      → (q : ℕ) × (head form s used p ≡ got y.item q)
      × (tails form s (entries_of y.item.content).count (entries_of y.item.content).first_index t q ≡ got (y.rows, y.total) z)
  unfolding one_item
  item_got_lem used t p {y} {z} e =
      let h = bind_got (head form s used p) _ e in
      let c = by_rows h.0 (tails form s (entries_of h.0.content).count (entries_of h.0.content).first_index t h.1) h.3 in
      rw c.0 (h.1, h.2, c.1)
    where
      by_rows : (x : LogItem) (g : Got (List EntryIndex × ℕ)) → bind g (λ r. done (record { item = x; rows = r.0; total = r.1 })) ≡ got y z
          → (y.item ≡ x) × (g ≡ got (y.rows, y.total) z)
      by_rows x (got o w) c =
          let same : y ≡ record { item = x; rows = o.0; total = o.1 } = cc in
          let place : w ≡ z = cc in
          rw (same, place) (refl, refl)
      by_rows x (refused n) c = cc

  module _ (used t p : ℕ) where
    pub item_no_head : {r : Reason} → head form s used p ≡ refused r → refused r ≡ counted_item form s used t p
    unfolding counted_item
    item_no_head e = rw e

    module _ {x : LogItem} {q : ℕ} (e : head form s used p ≡ got x q) {d : EntryIndexes} (k : d ≡ entries_of x.content) where
      by_rows : (g : Got (List EntryIndex × ℕ)) → Holds (λ r z. length r.0 ≡ d.count) g
          → bind {A = Read} {B = ItemRead} (bind g (λ r. done (record { item = x; rows = r.0; total = r.1 })))
          (λ r. done (record { item = r.item; tails = q; total = r.total; used = used + length r.rows }))
          ≡ bind (total_of g) (passing x q (used + d.count))
      by_rows (got r z) h = rw (only h)
      by_rows (refused r) h = refl

      -- Its rows, which are as many as it states, are passed by.
      pub item_rows : counted_item form s used t p
          ≡ bind (pass_tails form s d.count t q) (passing x q (used + d.count))
      unfolding counted_item
      item_rows =
          rw (e, ← k)
          (by_rows (tails form s d.count d.first_index t q) (rows_hold d.count d.first_index t q)
          ∙ ap (λ g. bind g (passing x q (used + d.count))) (total_pass d.count d.first_index t q))

      pub item_done : {u z : ℕ} → pass_tails form s d.count t q ≡ got u z
          → got (record { item = x; tails = q; total = u; used = used + d.count }) z ≡ counted_item form s used t p
      item_done f = rw (item_rows, f)

      pub item_no_tails : {r : Reason} → pass_tails form s d.count t q ≡ refused r → refused r ≡ counted_item form s used t p
      item_no_tails f = rw (item_rows, f)
