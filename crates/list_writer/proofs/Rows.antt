-- Rows that may spell no item: which of them are items, what the verdict on them is, and what their measure says.
-- Assumes nothing.
use Prim.Native.Nat.{ℕ, zero, suc, ◌+◌, ◌-◌, ◌≤◌, ◌<◌}
use mathlib.Core.Path.{◌≡◌, refl, sym, ap, ◌∙◌}
use mathlib.Core.Bool.{Bool, true, false, cond}
use mathlib.Core.List.{List, [], ◌∷◌}
use native.Mathlib.Omega.{arith}
use lib.Dec.{leb}
use lib.ListN.{length, get_or, take, drop, get_or-map, length-map}
use Rattle.std.proofs.lemmas.List.{get_or_default, get_or-drop, get_or-take}
use borrow.Author.Tests.{lt-leb, le-leb}
use Rattle.std.specs.Prelude.{Result, Ok, Err, map}
use Rattle.refusal.specs.First.{◌>>=◌, Checked, fine}
use Rattle.refusal.specs.declared.Reason.{Reason}
use Rattle.refusal.specs.declared.Reason.TheVariants.{ItemsTooMany, TailTooLarge}
use Rattle.refusal.specs.declared.Refusal.{Refusal}
use Rattle.refusal.specs.Number.{refusal_of}
use Rattle.log_item.specs.declared.LogItem.{LogItem}
use Rattle.log_item.specs.Blank.{blank_item}
use Rattle.log_item.specs.Written.{measure_item}
use Rattle.log_item.specs.declared.HeadSize.{HeadSize}
use Rattle.codec.specs.Shortest.{shortest}
use Rattle.list_writer.specs.Private.{row_head}
use Rattle.list_writer.specs.declared.Measured.{Measured}
use Rattle.list_writer.specs.Bytes.{list_bytes}
use Rattle.list_writer.specs.Refusing.{refused, at_item, items_verdict, list_verdict}
use Rattle.list_writer.specs.Answers.{measured_of, measure_of}
use Rattle.list_writer.specs.Rows.{items_before, row_behind, rows_verdict, rows_measure}
use Rattle.list_writer.proofs.Measuring.{Measuring, measuring_item, measuring_item_refused, measuring_row_refused, told_all, measuring_end}

abbrev pub Row : Type 0
Row = Result LogItem Reason

-- A row behind items alone is an item of the list, where it is one.
pub item_there : (rows : List Row) (i : ℕ) (x : LogItem) → get_or rows i (Ok x) ≡ Ok x → i < length rows → i ≤ length (items_before rows)
    → (i < length (items_before rows)) × (get_or (items_before rows) i blank_item ≡ x)
unfolding items_before
item_there [] i x e h l = absurd (omega arith)
item_there (Ok y ∷ rows) zero x e h l = (omega arith, cc)
item_there (Ok y ∷ rows) (suc i) x e h l = let k = item_there rows i x e (omega arith) (omega arith) in (omega arith, k.1)
item_there (Err r ∷ rows) zero x e h l = cc
item_there (Err r ∷ rows) (suc i) x e h l = absurd (omega arith)

-- Where it is none, the items end there.
pub none_there : (rows : List Row) (i : ℕ) (r : Reason) → get_or rows i (Err r) ≡ Err r → i < length rows → i ≤ length (items_before rows)
    → (length (items_before rows) ≡ i) × (row_behind rows ≡ Err r)
unfolding items_before row_behind
none_there [] i r e h l = absurd (omega arith)
none_there (Ok y ∷ rows) zero r e h l = cc
none_there (Ok y ∷ rows) (suc i) r e h l = let k = none_there rows i r e (omega arith) (omega arith) in (omega arith, k.1)
none_there (Err q ∷ rows) zero r e h l = (refl, cc)
none_there (Err q ∷ rows) (suc i) r e h l = absurd (omega arith)

-- Each row is an item where there are as many items.
pub all_items : (rows : List Row) → length rows ≤ length (items_before rows) → row_behind rows ≡ fine
unfolding items_before row_behind
all_items [] h = refl
all_items (Ok x ∷ rows) h = all_items rows (omega arith)
all_items (Err r ∷ rows) h = absurd (omega arith)

none_behind : (rows : List Row) → row_behind rows ≡ fine → length (items_before rows) ≡ length rows
unfolding items_before row_behind
none_behind [] h = refl
none_behind (Ok x ∷ rows) h = ap suc (none_behind rows h)
none_behind (Err r ∷ rows) h = cc

-- Where all rows are items, so is each.
pub each_item : (rows : List Row) (i : ℕ) (row : Row) → get_or rows i row ≡ row → i < length rows → length (items_before rows) ≡ length rows
    → (x : LogItem) × (row ≡ Ok x)
each_item rows i (Ok x) e h a = (x, refl)
each_item rows i (Err r) e h a = absurd (omega (arith, (none_there rows i r e h (omega arith)).0))

-- What stands at a place of a list, by a function on its elements.
pub at_map : {A B : Type 0} (f : A → B) (xs : List A) (i : ℕ) (x : A) → x ≡ get_or xs i x → get_or (map f xs) i (f x) ≡ f x
at_map f xs i x e = get_or-map f xs i x ∙ ap f (sym e)

pub entry_at : {B : Type 0} (f : B → ℕ) (xs : List B) (j n k : ℕ) (d : B) → d ≡ get_or (take n (drop j xs)) k d → k < n → j + k < length xs
    → get_or (map f xs) (j + k) 0 ≡ f d
entry_at f xs j n k d e h l =
    get_or_default (map f xs) (j + k) 0 (f d) (omega (arith, length-map xs f)) ∙ get_or-map f xs (j + k) d
    ∙ ap f (sym (e ∙ get_or-take n (drop j xs) k d h ∙ get_or-drop j xs k d))

module _ (s : List ℕ) (checked : Bool) (rows : List Row) (ns : List ℕ) where
  pub rows_9 : 256 < length rows → refused ItemsTooMany 0 ≡ rows_measure s checked rows ns
  unfolding rows_measure rows_verdict measured_of
  rows_9 h = rw (lt-leb (length rows) 256 h)

  -- A list of items alone is measured as they are.
  pub all_measured : row_behind rows ≡ fine → measure_of s checked (items_before rows) ns ≡ rows_measure s checked rows ns
  unfolding rows_measure rows_verdict measure_of list_verdict
  all_measured b = rw (none_behind rows b, b, id (items_verdict s checked (items_before rows) ns 0 0 0))
    where
      id : (v : Result ℕ Refusal) → (◌>>=◌ v λ t. Ok t) ≡ v
      id (Ok t) = refl
      id (Err r) = refl

  module _ (few : length rows ≤ 256) where
    refused_there : (r : Reason) (k : ℕ) → items_verdict s checked (items_before rows) ns 0 0 0 ≡ refused r k → refused r k ≡ rows_measure s checked rows ns
    unfolding rows_measure rows_verdict measured_of
    refused_there r k e = rw (le-leb (length rows) 256 few, e)

    refused_behind : (r : Reason) (t : ℕ) → items_verdict s checked (items_before rows) ns 0 0 0 ≡ Ok t → row_behind rows ≡ Err r
        → refused r (length (items_before rows)) ≡ rows_measure s checked rows ns
    unfolding rows_measure rows_verdict measured_of
    refused_behind r t e b = rw (le-leb (length rows) 256 few, e, b)

    module _ {first i j tails t size : ℕ} (m : Measuring s checked (items_before rows) ns first i j tails t size) where
      -- a row
      pub rows_item : (row : Row) {g : HeadSize} {count : ℕ} (k : ℕ) → length ns ≡ count → tails ≤ 0 → i < length rows → get_or rows i row ≡ row
          → at_item k (row_head s checked j count row) ≡ Ok g → Measuring s checked (items_before rows) ns first (i + 1) j g.count t (size + g.len)
      rows_item (Ok x) {g} {count} k all z h e f =
          let p = item_there rows i x e h m.most in
          measuring_item s checked (items_before rows) ns m x all z p.0 p.1 (at_fine (measure_item s checked j count x) f)
        where
          at_fine : (r : Result HeadSize Reason) → at_item k r ≡ Ok g → r ≡ Ok g
          at_fine (Ok v) q = cc
          at_fine (Err v) q = cc
      rows_item (Err r) k all z h e f = cc

      pub rows_refused : (row : Row) {r : Refusal} {count : ℕ} → length ns ≡ count → tails ≤ 0 → i < length rows → get_or rows i row ≡ row
          → at_item i (row_head s checked j count row) ≡ Err r → Err r ≡ rows_measure s checked rows ns
      rows_refused (Ok x) {r} {count} all z h e f = go (measure_item s checked j count x) refl f
        where
          p : (i < length (items_before rows)) × (get_or (items_before rows) i blank_item ≡ x)
          p = item_there rows i x e h m.most

          go : (v : Result HeadSize Reason) → measure_item s checked j count x ≡ v → at_item i v ≡ Err r → Err r ≡ rows_measure s checked rows ns
          go (Ok g) q w = cc
          go (Err n) q w =
              let same : ◌≡◌ {A = Refusal} (refusal_of n i) r = cc in
              rw (← same) (refused_there n i (measuring_item_refused s checked (items_before rows) ns m x all z p.0 p.1 q))
      rows_refused (Err n) {r} all z h e f =
          let same : ◌≡◌ {A = Refusal} (refusal_of n i) r = cc in
          let p = none_there rows i n e h m.most in
          let ends : length (items_before rows) ≤ i = omega (arith, p.0) in
          rw (← same) (ap (λ (k : ℕ). refused n k) (sym p.0) ∙ refused_behind n t (told_all s checked (items_before rows) ns m z ends) p.1)

      -- a tail
      pub rows_entry_refused : (n : ℕ) → 0 < tails → get_or ns j 0 ≡ n → 4294967295 < t + n → (k : ℕ) → i ≡ k + 1
          → refused TailTooLarge k ≡ rows_measure s checked rows ns
      rows_entry_refused n h e l k same =
          let q : i - 1 ≡ k = omega arith in
          refused_there TailTooLarge k (rw q at (measuring_row_refused s checked (items_before rows) ns m n h e l))

      -- the end
      pub rows_end : first ≡ length (shortest (length rows)) → tails ≤ 0 → length rows ≤ i → measured_of (Ok t) size ≡ rows_measure s checked rows ns
      rows_end e z h =
          let b : row_behind rows ≡ fine = all_items rows (omega (arith, m.most)) in
          let n : length (items_before rows) ≡ length rows = none_behind rows b in
          let c : first ≡ length (shortest (length (items_before rows))) = rw n e in
          measuring_end s checked (items_before rows) ns m (omega arith) c z (omega arith) ∙ all_measured b

  -- A list that is not refused is one of items alone.
  pub rows_accepted : (m : Measured) → Ok m ≡ rows_measure s checked rows ns
      → (Ok m ≡ measure_of s checked (items_before rows) ns) × (length (items_before rows) ≡ length rows)
  unfolding rows_measure rows_verdict measured_of
  rows_accepted m e = (e ∙ sym (all_measured b), none_behind rows b)
    where
      go : (few : Bool) (v : Result ℕ Refusal) (r : Checked Reason) (n k : ℕ) (w : Refusal)
          → Ok m ≡ measured_of (cond few (◌>>=◌ v λ t. ◌>>=◌ (at_item k r) λ u. Ok t) (Err w)) n → r ≡ fine
      go true (Ok t) (Ok u) n k w q = refl
      go true (Ok t) (Err x) n k w q = cc
      go true (Err x) r n k w q = cc
      go false v r n k w q = cc

      b : row_behind rows ≡ fine
      b =
          go (leb (length rows) 256) (items_verdict s checked (items_before rows) ns 0 0 0) (row_behind rows) (length (list_bytes s (items_before rows) ns))
          (length (items_before rows)) (refusal_of ItemsTooMany 0) e
