-- What `measure` of log_item tells of an item: its refusal, its length and its rows; and what follows where a verdict is fine.
-- Assumes nothing.
use Prim.Native.Nat.{ℕ}
use mathlib.Core.Path.{◌≡◌, refl}
use mathlib.Core.Bool.{Bool, true, false, cond}
use mathlib.Core.List.{List}
use lib.ListN.{length}
use Rattle.std.specs.Prelude.{Result, Ok, Err}
use Rattle.refusal.specs.First.{◌>>=◌, Checked, fine}
use Rattle.refusal.specs.declared.Reason.{Reason}
use Rattle.refusal.specs.declared.Refusal.{Refusal}
use Rattle.log_item.specs.Entries.{entries_of}
use Rattle.log_item.specs.declared.LogItem.{LogItem}
use Rattle.log_item.specs.declared.HeadSize.{HeadSize}
use Rattle.log_item.specs.Bytes.{head_bytes}
use Rattle.log_item.specs.Refusing.{content_refusal}
use Rattle.log_item.specs.Written.{capped, measure_item}
use Rattle.list_writer.specs.Refusing.{refused, at_item}

-- where item k is not refused, what follows it
abbrev pub unless_item : Checked Reason → ℕ → Result ℕ Refusal → Result ℕ Refusal
unless_item r k v = do
  u ← at_item k r
  v

module _ (s : List ℕ) (checked : Bool) (used rows : ℕ) (x : LogItem) where
  pub head_fine : {h : HeadSize} → measure_item s checked used rows x ≡ Ok h
      → (content_refusal s checked used rows x.content ≡ fine) × (h.len ≡ capped (length (head_bytes s x))) × (h.count ≡ (entries_of x.content).count)
  unfolding measure_item
  head_fine {h} e = go (content_refusal s checked used rows x.content) e
    where
      size : HeadSize
      size = record { len = capped (length (head_bytes s x)); count = (entries_of x.content).count }

      go : (r : Checked Reason) → (◌>>=◌ r λ u. Ok size) ≡ Ok h
          → (r ≡ fine) × (h.len ≡ capped (length (head_bytes s x))) × (h.count ≡ (entries_of x.content).count)
      go (Ok u) q = (refl, cc, cc)
      go (Err r) q = cc

  pub unless_refused : {r : Reason} (k : ℕ) (v : Result ℕ Refusal) → measure_item s checked used rows x ≡ Err r
      → unless_item (content_refusal s checked used rows x.content) k v ≡ refused r k
  unfolding measure_item
  unless_refused {r} k v e = go (content_refusal s checked used rows x.content) e
    where
      size : HeadSize
      size = record { len = capped (length (head_bytes s x)); count = (entries_of x.content).count }

      go : (q : Checked Reason) → (◌>>=◌ q λ u. Ok size) ≡ Err r → unless_item q k v ≡ refused r k
      go (Ok u) p = cc
      go (Err w) p = let z : w ≡ r = cc in rw z

-- Where a verdict is fine, no test before it refused.
pub unless_fine : (r : Checked Reason) (k : ℕ) (v : Result ℕ Refusal) (t : ℕ) → unless_item r k v ≡ Ok t → (r ≡ fine) × (v ≡ Ok t)
unless_fine (Ok u) k v t h = (refl, h)
unless_fine (Err r) k v t h = cc

module _ {A E : Type 0} (b : Bool) (r : E) (v : Result A E) {t : A} where
  pub cond_fine : cond b (Err r) v ≡ Ok t → (b ≡ false) × (v ≡ Ok t)
  cond_fine h = go b h
    where
      go : (c : Bool) → cond c (Err r) v ≡ Ok t → (c ≡ false) × (v ≡ Ok t)
      go true q = cc
      go false q = (refl, q)

  pub else_fine : cond b v (Err r) ≡ Ok t → (b ≡ true) × (v ≡ Ok t)
  else_fine h = go b h
    where
      go : (c : Bool) → cond c v (Err r) ≡ Ok t → (c ≡ true) × (v ≡ Ok t)
      go true q = (refl, q)
      go false q = cc
