-- What holds of whatever list an answer accepts: a rule for each way to put answers together.
-- Assumes nothing.
use Rattle.std.proofs.Common.{◌≡◌, ℕ, List, ◌∷◌, ◌++◌, refl}
use Rattle.refusal.specs.declared.Reason.{Reason}
use Rattle.log_item.specs.declared.LogItem.{LogItem}
use Rattle.log_item.specs.declared.EntryIndex.{EntryIndex}
use Rattle.log_item.specs.Got.{Got, got, refused}
use Rattle.log_item.specs.Reading.{Read}
use Rattle.log_item.proofs.Holds.{Holds, holds, refuses}
use Rattle.log_batch.specs.Reading.{Answer, accepted, rejected, before, in_front, counted}

-- What is accepted has the property.
pub data Accepts (P : List LogItem → List EntryIndex → ℕ → ℕ → Type 0) : Answer → Type 0 where
  accepts : {xs : List LogItem} {rows : List EntryIndex} {u q : ℕ} → P xs rows u q → Accepts P (accepted xs rows u q)
  rejects : {r : Reason} {i : ℕ} → Accepts P (rejected r i)

module _ {P : List LogItem → List EntryIndex → ℕ → ℕ → Type 0} where
  -- What is accepted has it.
  only : {xs : List LogItem} {rows : List EntryIndex} {u q : ℕ} → Accepts P (accepted xs rows u q) → P xs rows u q
  only (accepts h) = h

  pub of_accepted : {a : Answer} {xs : List LogItem} {rows : List EntryIndex} {u q : ℕ} → Accepts P a → a ≡ accepted xs rows u q → P xs rows u q
  of_accepted h e = only (rw e at h)

  -- An item, and what follows it.
  pub in_front_lem : {Q : Read → ℕ → Type 0} (i : ℕ) {m : Got Read} (f : Read → ℕ → Answer) → Holds Q m
      → ((r : Read) (q : ℕ) → Q r q → Accepts P (before r.item r.rows (f r q))) → Accepts P (in_front i m f)
  in_front_lem i f (holds h) k = k _ _ h
  in_front_lem i f refuses k = rejects

  -- A count, and the items after it.
  pub counting : {Q : ℕ → ℕ → Type 0} {m : Got ℕ} {f : ℕ → ℕ → Answer} → Holds Q m → ((k q : ℕ) → Q k q → Accepts P (f k q)) → Accepts P (counted m f)
  counting (holds h) k = k _ _ h
  counting refuses k = rejects

module _ {P Q : List LogItem → List EntryIndex → ℕ → ℕ → Type 0} where
  -- What has one property has another that follows.
  pub weaken : {a : Answer} → Accepts P a → ((xs : List LogItem) (rows : List EntryIndex) (u q : ℕ) → P xs rows u q → Q xs rows u q) → Accepts Q a
  weaken (accepts h) k = accepts (k _ _ _ _ h)
  weaken rejects k = rejects

  -- One more item in front.
  pub accepts_more : (x : LogItem) (rows : List EntryIndex) {a : Answer} → Accepts P a
      → ((xs : List LogItem) (more : List EntryIndex) (u q : ℕ) → P xs more u q → Q (x ∷ xs) (rows ++ more) u q) → Accepts Q (before x rows a)
  accepts_more x rows (accepts h) k = accepts (k _ _ _ _ h)
  accepts_more x rows rejects k = rejects

-- ---- what an accepted list was read from

-- An item was read in front.
pub front_got : (i : ℕ) (m : Got Read) (f : Read → ℕ → Answer) {xs : List LogItem} {rows : List EntryIndex} {u q : ℕ} → in_front i m f ≡ accepted xs rows u q
    → (r : Read) × (z : ℕ) × (m ≡ got r z) × (before r.item r.rows (f r z) ≡ accepted xs rows u q)
front_got i (got r z) f e = (r, z, refl, e)
front_got i (refused n) f e = cc

-- What follows it was accepted.
pub before_got : (x : LogItem) (rows : List EntryIndex) (a : Answer) {xs : List LogItem} {all : List EntryIndex} {u q : ℕ} → before x rows a ≡ accepted xs all u q
    → (ys : List LogItem) × (more : List EntryIndex) × (a ≡ accepted ys more u q) × (xs ≡ x ∷ ys) × (all ≡ rows ++ more)
before_got x rows (accepted ys more v z) e = (ys, more, cc, cc, cc)
before_got x rows (rejected n i) e = cc
