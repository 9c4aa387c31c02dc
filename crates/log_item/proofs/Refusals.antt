-- Which refusal each test gives, and what holds where there is none.
-- Assumes nothing.
use Prim.Native.Nat.{ℕ, zero, suc, ◌+◌, ◌-◌, ◌≤◌, ◌<◌}
use mathlib.Core.Path.{◌≡◌, refl, sym}
use mathlib.Core.Bool.{Bool, true, false, cond, ◌&&◌}
use mathlib.Core.List.{List}
use native.Mathlib.Omega.{arith}
use lib.Dec.{leb}
use borrow.Author.Tests.{leb-true, le-leb, lt-leb}
use Rattle.std.specs.Prelude.{Err}
use Rattle.refusal.specs.First.{Checked, fine}
use Rattle.refusal.specs.declared.Reason.{Reason}
use Rattle.refusal.specs.declared.Reason.TheVariants.{EntriesTooMany, IndexTooLarge, KeyInternal, SpanOutside}
use Rattle.log_item.specs.Entries.{entries_of}
use Rattle.log_item.specs.Prefix.{prefix, begins, bytes_of, inside}
use Rattle.log_item.specs.declared.Span.{Span}
use Rattle.log_item.specs.declared.Op.{Op}
use Rattle.log_item.specs.declared.Op.TheVariants.{Put, Del}
use Rattle.log_item.specs.declared.EntryIndexes.{EntryIndexes}
use Rattle.log_item.specs.declared.LogItemContent.{LogItemContent}
use Rattle.log_item.specs.declared.LogItemContent.TheVariants as contents
use Rattle.log_item.specs.Refusing.{op_inside, content_inside, index_refusal, entries_refusal, key_refusal, content_refusal}

-- Where nothing is refused the first test holds, and nothing behind it is refused.
pub passed : (b : Bool) (x : Reason) {m : Checked Reason} → cond b m (Err x) ≡ fine → (b ≡ true) × (m ≡ fine)
passed true x e = (refl, e)
passed false x e = absurd (cc)

-- 17 in the sum of the first index and the count.
index_17 : (n i : ℕ) → i ≤ 18446744073709551615 → 18446744073709551616 < i + n → Err IndexTooLarge ≡ index_refusal n i
index_17 zero i h l = absurd (omega arith)
index_17 (suc n) i h l = rw (lt-leb (i + n) 18446744073709551615 (omega arith))

index_fine : (n i : ℕ) → i + n ≤ 18446744073709551616 → fine ≡ index_refusal n i
index_fine zero i l = refl
index_fine (suc n) i l = rw (le-leb (i + n) 18446744073709551615 (omega arith))

index_allowed : (n i : ℕ) → index_refusal n i ≡ fine → i ≤ 18446744073709551616 → i + n ≤ 18446744073709551616
index_allowed zero i e h = omega arith
index_allowed (suc n) i e h = omega (arith, leb-true (i + n) 18446744073709551615 (passed (leb (i + n) 18446744073709551615) _ e).0)

module _ (used rows : ℕ) (e : EntryIndexes) where
  pub entries_14 : 1024 < used + e.count → Err EntriesTooMany ≡ entries_refusal used rows e
  unfolding entries_refusal
  entries_14 h = rw (lt-leb (used + e.count) 1024 h)

  pub entries_13 : used + e.count ≤ 1024 → rows - used < e.count → Err SpanOutside ≡ entries_refusal used rows e
  unfolding entries_refusal
  entries_13 h k = rw (le-leb (used + e.count) 1024 h, lt-leb e.count (rows - used) k)

  pub entries_17 : used + e.count ≤ 1024 → e.count ≤ rows - used → e.first_index ≤ 18446744073709551615
      → 18446744073709551616 < e.first_index + e.count → Err IndexTooLarge ≡ entries_refusal used rows e
  unfolding entries_refusal
  entries_17 h k b l = rw (le-leb (used + e.count) 1024 h, le-leb e.count (rows - used) k) (index_17 e.count e.first_index b l)

  -- Entries within the three limits are not refused.
  pub entries_fine : used + e.count ≤ 1024 → e.count ≤ rows - used → e.first_index + e.count ≤ 18446744073709551616 → fine ≡ entries_refusal used rows e
  unfolding entries_refusal
  entries_fine h k l = rw (le-leb (used + e.count) 1024 h, le-leb e.count (rows - used) k) (index_fine e.count e.first_index l)

module _ (s : List ℕ) (key : Span) (op : Op) where
  pub key_outside : inside s key ≡ false → false ≡ op_inside s key op
  key_outside h = go op
    where
      go : (o : Op) → false ≡ op_inside s key o
      go (Put v) = rw h
      go Del = sym h

module _ (s : List ℕ) (checked : Bool) (key : Span) (op : Op) where
  pub key_13 : op_inside s key op ≡ false → Err SpanOutside ≡ key_refusal s checked key op
  unfolding key_refusal
  key_13 h = rw h

  pub key_23 : {v : Span} → op_inside s key op ≡ true → op ≡ Put v → (checked && begins (bytes_of s key) prefix) ≡ true → Err KeyInternal ≡ key_refusal s checked key op
  unfolding key_refusal
  key_23 h e z = rw (h, e, z)

module _ (s : List ℕ) (checked : Bool) (used rows : ℕ) where
  -- What holds of the entries of a content that is not refused.
  pub record Allowed (e : EntryIndexes) : Type 0 where
    pub few : used ≤ 1024 → used + e.count ≤ 1024
    pub lent : used ≤ rows → used + e.count ≤ rows
    pub last : e.first_index ≤ 18446744073709551616 → e.first_index + e.count ≤ 18446744073709551616

  pub content_inside_lem : (k : LogItemContent) → content_refusal s checked used rows k ≡ fine → content_inside s k ≡ true
  unfolding content_refusal key_refusal
  content_inside_lem (contents.EntryIndexes e) h = refl
  content_inside_lem (contents.Command c) h = refl
  content_inside_lem (contents.Kv k) h = (passed (op_inside s k.key k.op) _ h).0

  pub content_allowed : (k : LogItemContent) → content_refusal s checked used rows k ≡ fine → Allowed (entries_of k)
  unfolding content_refusal entries_refusal
  content_allowed (contents.EntryIndexes e) h =
      let a = passed (leb (used + e.count) 1024) _ h in
      let b = passed (leb e.count (rows - used)) _ a.1 in
      let x = leb-true _ _ a.0 in
      let y = leb-true e.count (rows - used) b.0 in
      record { few = λ u. x; lent = λ u. omega arith; last = index_allowed e.count e.first_index b.1 }
  content_allowed (contents.Command c) h = record { few = λ u. omega arith; lent = λ u. omega arith; last = λ u. omega arith }
  content_allowed (contents.Kv k) h = record { few = λ u. omega arith; lent = λ u. omega arith; last = λ u. omega arith }
