-- What is still to come of a reading, item after item and tail after tail, and what each tail and each item takes off it.
-- Assumes nothing.
use Rattle.std.proofs.Common.{◌≡◌, ℕ, zero, suc, ◌+◌, ◌-◌, ◌<◌, List, [], ◌∷◌, ◌++◌, length, refl, ap, ◌∙◌, append_assoc, arith}
use Rattle.refusal.specs.declared.Reason.{Reason}
use Rattle.log_item.specs.Got.{Got, got, refused, done, bind}
use Rattle.log_item.specs.Entries.{entries_of, tail_row}
use Rattle.log_item.specs.Reading.{head, tail, tails, one_item}
use Rattle.log_item.specs.declared.Form.TheVariants.{Any}
use Rattle.log_item.specs.declared.LogItem.{LogItem}
use Rattle.log_item.specs.declared.EntryIndex.{EntryIndex}
use Rattle.log_item.specs.declared.EntryIndexes.{EntryIndexes}
use Rattle.log_batch.specs.Reading.{Answer, accepted, rejected, before, in_front, items}

-- items and rows in front of what follows
abbrev pub prepend : List LogItem → List EntryIndex → Answer → Answer
prepend xs rows (accepted more others u q) = accepted (xs ++ more) (rows ++ others) u q
prepend xs rows (rejected r i) = rejected r i

-- the rows of the tails of item i, in front of what follows
abbrev pub behind : ℕ → Got (List EntryIndex × ℕ) → (List EntryIndex → ℕ → ℕ → Answer) → Answer
behind i (got r q) f = prepend [] r.0 (f r.0 r.1 q)
behind i (refused n) f = rejected n i

-- ---- what has something in front

pub prepend_none : (a : Answer) → prepend [] [] a ≡ a
prepend_none (accepted xs rows u q) = refl
prepend_none (rejected r i) = refl

pub prepend_item : (xs : List LogItem) (rows : List EntryIndex) (x : LogItem) (a : Answer)
    → prepend xs rows (prepend (x ∷ []) [] a) ≡ prepend (xs ++ (x ∷ [])) rows a
prepend_item xs rows x (accepted more others u q) = rw (append_assoc xs (x ∷ []) more)
prepend_item xs rows x (rejected r i) = refl

pub prepend_row : (xs : List LogItem) (rows : List EntryIndex) (y : EntryIndex) (a : Answer)
    → prepend xs rows (prepend [] (y ∷ []) a) ≡ prepend xs (rows ++ (y ∷ [])) a
prepend_row xs rows y (accepted more others u q) = rw (append_assoc rows (y ∷ []) others)
prepend_row xs rows y (rejected r i) = refl

row_ahead : (y : EntryIndex) (rows : List EntryIndex) (a : Answer) → prepend [] (y ∷ rows) a ≡ prepend [] (y ∷ []) (prepend [] rows a)
row_ahead y rows (accepted xs more u q) = refl
row_ahead y rows (rejected r i) = refl

behind_row : (i : ℕ) (y : EntryIndex) (g : Got (List EntryIndex × ℕ)) (f h : List EntryIndex → ℕ → ℕ → Answer)
    → ((rows : List EntryIndex) (u q : ℕ) → f (y ∷ rows) u q ≡ h rows u q)
    → behind i (bind g (λ r. done (y ∷ r.0, r.1))) f ≡ prepend [] (y ∷ []) (behind i g h)
behind_row i y (got r q) f h e = row_ahead y r.0 (f (y ∷ r.0) r.1 q) ∙ ap (λ a. prepend [] (y ∷ []) (prepend [] r.0 a)) (e r.0 r.1 q)
behind_row i y (refused n) f h e = refl

item_ahead : (x : LogItem) (rows : List EntryIndex) (a : Answer) → before x rows a ≡ prepend (x ∷ []) [] (prepend [] rows a)
item_ahead x rows (accepted xs more u q) = refl
item_ahead x rows (rejected r i) = refl

module _ (s : List ℕ) (k : ℕ) where
  -- what is still to come: the tails left of the item before, and then the items left
  unfoldable pub rest : ℕ → ℕ → ℕ → ℕ → ℕ → ℕ → Answer
  rest i j p t n index = behind (i - 1) (tails Any s n index t p) (λ rows u q. items Any s (k - i) i (j + length rows) u q)

  -- The index is asked only where a tail is left.
  same_tails : (n p t index other : ℕ) → (0 < n → index ≡ other) → tails Any s n index t p ≡ tails Any s n other t p
  unfolding tails
  same_tails zero p t index other h = refl
  same_tails (suc n) p t index other h = ap (λ (x : ℕ). tails Any s (suc n) x t p) (h (omega arith))

  module _ (i j p t : ℕ) where
    pub row_suc : (n index other w q : ℕ) → tail Any s t p ≡ got w q → (0 < n → index + 1 ≡ other)
        → rest i j p t (suc n) index ≡ prepend [] (tail_row index t w ∷ []) (rest i (j + 1) q w n other)
    unfolding rest tails
    row_suc n index other w q e h =
        rw e
        (behind_row (i - 1) (tail_row index t w) (tails Any s n (index + 1) w q) _ (λ rows u z. items Any s (k - i) i (j + 1 + length rows) u z)
        (λ rows u z. let one : j + length (tail_row index t w ∷ rows) ≡ j + 1 + length rows = omega arith in ap (λ (m : ℕ). items Any s (k - i) i m u z) one)
        ∙ ap (λ g. prepend [] (tail_row index t w ∷ []) (behind (i - 1) g (λ rows u z. items Any s (k - i) i (j + 1 + length rows) u z)))
        (same_tails n q w (index + 1) other h))

    pub bad_suc : (n index : ℕ) {r : Reason} → tail Any s t p ≡ refused r → rest i j p t (suc n) index ≡ rejected r (i - 1)
    unfolding rest tails
    bad_suc n index e = rw e

    pub rest_zero : (index : ℕ) → rest i j p t 0 index ≡ items Any s (k - i) i j t p
    unfolding rest tails
    rest_zero index =
        let none : j + 0 ≡ j = omega arith in
        prepend_none _ ∙ ap (λ (m : ℕ). items Any s (k - i) i m t p) none

    pub item_suc : (m : ℕ) {x : LogItem} {q : ℕ} {d : EntryIndexes} → head Any s j p ≡ got x q → d ≡ entries_of x.content
        → items Any s (suc m) i j t p
        ≡ prepend (x ∷ []) [] (behind i (tails Any s d.count d.first_index t q) (λ rows u z. items Any s m (i + 1) (j + length rows) u z))
    unfolding items one_item
    item_suc m {x} {q} {d} e h = rw (e, ← h) (go (tails Any s d.count d.first_index t q))
      where
        go : (g : Got (List EntryIndex × ℕ))
            → in_front i (bind g (λ r. done (record { item = x; rows = r.0; total = r.1 }))) (λ r z. items Any s m (i + 1) (j + length r.rows) r.total z)
            ≡ prepend (x ∷ []) [] (behind i g (λ rows u z. items Any s m (i + 1) (j + length rows) u z))
        go (got r z) = item_ahead x r.0 (items Any s m (i + 1) (j + length r.0) r.1 z)
        go (refused n) = refl

    pub no_item : (m : ℕ) {r : Reason} → head Any s j p ≡ refused r → items Any s (suc m) i j t p ≡ rejected r i
    unfolding items one_item
    no_item m e = rw e
