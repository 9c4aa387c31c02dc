-- What going over the items without a table comes to.
-- Assumes nothing.
use Rattle.std.proofs.Common.{◌≡◌, ℕ, suc, ◌+◌, ◌-◌, ◌<◌, ◌≤◌, List, [], ◌++◌, length, Result, Ok, Err, sym, refl, ap, ◌∙◌, ap₂, add-zero, zero-add, arith, length-append}
use borrow.Author.Tests.{lt-leb}
use Rattle.log_item.specs.Got.{Got, got, refused, done, bind}
use Rattle.log_item.specs.Reading.{Read, one_item}
use Rattle.log_item.specs.Pieces.{number}
use Rattle.words.specs.declared.Piece.{Piece}
use Rattle.words.specs.Word.{piece}
use Rattle.log_item.specs.Answers.{pass_item, not_passed, passed_of}
use Rattle.log_item.specs.declared.NotPassed.{NotPassed}
use Rattle.log_item.specs.declared.NotPassed.TheVariants.{Padded, Refused}
use Rattle.log_item.specs.declared.Passed.{Passed}
use Rattle.refusal.specs.declared.Reason.{Reason}
use Rattle.refusal.specs.declared.Reason.TheVariants.{ItemsTooMany, NotShortest}
use Rattle.refusal.specs.declared.Refusal.{Refusal}
use Rattle.refusal.specs.Number.{refusal_of}
use Rattle.log_item.specs.declared.Form.{Form}
use Rattle.log_item.specs.declared.LogItem.{LogItem}
use Rattle.log_item.specs.declared.EntryIndex.{EntryIndex}
use Rattle.log_batch.specs.declared.BodyCheck.{BodyCheck}
use Rattle.log_batch.specs.Reading.{Answer, accepted, rejected, before, in_front, items, count, read_items}
use Rattle.log_batch.specs.Body.{read_body}
use Rattle.log_batch.specs.Answers.{check_of}
use Rattle.log_item.proofs.Holds.{Holds, holds, later, at_most, of_got}
use Rattle.log_item.proofs.Counted.{pass_one}
use Rattle.log_batch.proofs.Bodies.{parts}

-- ---- the item count

module _ (form : Form) (s : List ℕ) where
  pub items_many : {n q : ℕ} → number form s 0 ≡ got n q → 256 < n → count form s 0 ≡ refused ItemsTooMany
  unfolding count
  items_many e h = rw (e, lt-leb _ _ h)

  count_holds : Holds (λ n q. n ≤ 256) (count form s 0)
  unfolding count
  count_holds = later (number form s 0) λ n q. at_most n 256 ItemsTooMany _ q λ h. holds h

  module _ {n q : ℕ} (e : count form s 0 ≡ got n q) where
    pub some_counted : read_items form s ≡ items form s n 0 0 0 q
    unfolding read_items
    some_counted = rw e

    pub counted_few : n ≤ 256
    counted_few = of_got count_holds e

-- ---- the items

-- why an item is not gone over
abbrev pub reason_of : NotPassed → Reason
reason_of (Refused r) = r
reason_of Padded = NotShortest

reason_told : (r : Reason) → reason_of (not_passed r) ≡ r
reason_told r = grind arith

refused_told : (g : Got Passed) {e : NotPassed} → Err e ≡ passed_of g → g ≡ refused (reason_of e)
refused_told (got x q) e = cc
refused_told (refused r) {e = f} e = let same : f ≡ not_passed r = cc in rw (same, reason_told r)

passed_told : (g : Got Passed) {x : Piece Passed} → Ok x ≡ passed_of g → g ≡ got x.value x.next
passed_told (got x q) {x = y} e = let same : y ≡ piece x q = cc in rw same
passed_told (refused r) e = cc

-- what a body holds, where i items with e entries stand before those of the answer
abbrev pub held_after : ℕ → ℕ → Answer → Result BodyCheck Refusal
held_after i e (accepted xs rows u q) = Ok (record { items = i + length xs; entries = e + length rows; total = u; next = q })
held_after i e (rejected r k) = Err (refusal_of r k)

-- the same of numbers
abbrev holding : ℕ → ℕ → ℕ → ℕ → Result BodyCheck Refusal
holding u q m n = Ok (record { items = m; entries = n; total = u; next = q })

pub held_none : (a : Answer) → held_after 0 0 a ≡ check_of a
held_none (accepted xs rows u q) = ap₂ (holding u q) (zero-add (length xs)) (zero-add (length rows))
held_none (rejected r k) = refl

held_before : (i e : ℕ) (x : LogItem) (rows : List EntryIndex) (a : Answer) → held_after i e (before x rows a) ≡ held_after (i + 1) (e + length rows) a
held_before i e x rows (accepted xs more u q) =
    let m : i + suc (length xs) ≡ i + 1 + length xs = omega arith in
    let n : e + length (rows ++ more) ≡ e + length rows + length more = omega (arith, length-append rows more) in
    ap₂ (holding u q) m n
held_before i e x rows (rejected r k) = refl

module _ (form : Form) (s : List ℕ) where
  -- What is still to be read at an item is what the whole comes to.
  pub record ItemsLeft (count start i at total used : ℕ) : Type 0 where
    pub few : i ≤ count
    pub comes : held_after i used (items form s (count - i) i used total at) ≡ check_of (items form s count 0 0 0 start)

  -- what a body holds where i items and one that was gone over stand before k others
  abbrev held_past : ℕ → ℕ → Got Passed → Result BodyCheck Refusal
  held_past k i (got r q) = held_after (i + 1) r.used (items form s k (i + 1) r.used r.total q)
  held_past k i (refused r) = Err (refusal_of r i)

  held_past_lem : (k i e t p : ℕ) → held_past k i (pass_item form s e t p) ≡ held_after i e (items form s (suc k) i e t p)
  unfolding items
  held_past_lem k i e t p = ap (held_past k i) (pass_one form s e t p) ∙ go (one_item form s e t p)
    where
      go : (g : Got Read) → held_past k i (bind {A = Read} {B = Passed} g (λ r. done (record { total = r.total; used = e + length r.rows })))
          ≡ held_after i e (in_front i g (λ r z. items form s k (i + 1) (e + length r.rows) r.total z))
      go (got r z) = sym (held_before i e r.item r.rows (items form s k (i + 1) (e + length r.rows) r.total z))
      go (refused r) = refl

  items_none : (i e t p : ℕ) → items form s 0 i e t p ≡ accepted [] [] t p
  unfolding items
  items_none i e t p = refl

  module _ {count start i at total used : ℕ} (l : ItemsLeft count start i at total used) where
    module _ (more : i < count) where
      rest : count - i ≡ suc (count - (i + 1))
      rest = omega arith

      past : {g : Got Passed} → pass_item form s used total at ≡ g → held_past (count - (i + 1)) i g ≡ check_of (items form s count 0 0 0 start)
      past h = ap (held_past (count - (i + 1)) i) (sym h) ∙ held_past_lem (count - (i + 1)) i used total at ∙ rw (← rest) l.comes

      pub left_next : {x : Piece Passed} → Ok x ≡ passed_of (pass_item form s used total at) → ItemsLeft count start (i + 1) x.next x.value.total x.value.used
      left_next h = record { few = omega arith; comes = past (passed_told _ h) }

      pub left_refused : {e : NotPassed} → Err e ≡ passed_of (pass_item form s used total at) → Err (refusal_of (reason_of e) i) ≡ check_of (items form s count 0 0 0 start)
      left_refused h = past (refused_told _ h)

    pub left_end : count ≤ i → Ok (record { items = count; entries = used; total = total; next = at }) ≡ check_of (items form s count 0 0 0 start)
    left_end h = sym (ending (count - i) none) ∙ l.comes
      where
        none : count - i ≡ 0
        none = omega arith

        same : i ≡ count
        same = omega (arith, l.few)

        ending : (k : ℕ) → k ≡ 0 → held_after i used (items form s k i used total at) ≡ holding total at count used
        ending k e = rw (e, items_none i used total at) (ap₂ (holding total at) (add-zero i ∙ same) (add-zero used))

-- ---- what a check tells of the reading

pub acceptance_told : {x : BodyCheck} (a : Answer) → Ok x ≡ check_of a
    → (xs : List LogItem) × (rows : List EntryIndex) × (a ≡ accepted xs rows x.total x.next) × (length xs ≡ x.items) × (length rows ≡ x.entries)
acceptance_told {x} (accepted xs rows v z) e =
    let same : x ≡ record { items = length xs; entries = length rows; total = v; next = z } = cc in
    rw same (xs, rows, refl, refl, refl)
acceptance_told (rejected r i) e = cc

pub refusal_told : {x : Refusal} (a : Answer) → Err x ≡ check_of a → (r : Reason) × (x ≡ refusal_of r x.item) × (a ≡ rejected r x.item)
refusal_told (accepted xs rows u q) e = cc
refusal_told {x} (rejected r i) e = let f : x ≡ refusal_of r i = cc in rw f (r, refl, refl)

-- An accepted body has its footer.
pub accepted_long : (body : List ℕ) (signature : ℕ) {x : BodyCheck} → Ok x ≡ check_of (read_body body signature) → 4 < length body
accepted_long body signature e = (parts body signature (acceptance_told (read_body body signature) e).2).0.long
