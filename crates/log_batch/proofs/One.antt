-- Bytes begin with at most one list: two that spell a beginning of the same bytes are the same, within the limits or not.
-- Each lemma takes two spellings with the bytes behind them, r and z.
-- Assumes nothing.
use Rattle.std.proofs.Common.{◌≡◌, ℕ, List, ◌++◌, length, refl, append_assoc, arith}
use Rattle.log_item.specs.declared.Form.TheVariants.{Any}
use Rattle.log_item.specs.declared.LogItem.{LogItem}
use Rattle.log_item.specs.declared.EntryIndex.{EntryIndex}
use Rattle.log_item.specs.Spelling.{NumberIn}
use Rattle.log_batch.specs.Spelling.{Items, end, then, Spells, list}
use Rattle.log_item.proofs.One.{one_number, one_item_lem}

-- As many items, from one place and one total on.
pub one_items : {xs ys : List LogItem} {rows more : List EntryIndex} {t m n p : ℕ} {x y : List ℕ} (r z : List ℕ) → Items (NumberIn Any) xs rows t m p x → Items (NumberIn Any) ys more t n p y
    → length xs ≡ length ys → x ++ r ≡ y ++ z → (xs ≡ ys) × (rows ≡ more) × (m ≡ n) × (x ≡ y)
one_items r z end end long e = (refl, refl, refl, refl)
one_items r z end (then g l) long e = absurd (omega arith)
one_items r z (then h k) end long e = absurd (omega arith)
one_items r z (then {bytes = a} {later = x} h k) (then {bytes = b} {later = y} g l) long e =
    let o = one_item_lem (x ++ r) (y ++ z) h g (cc (append_assoc a x r, append_assoc b y z)) in
    let i = one_items r z k (rw (← o.2, ← o.3) at l) (omega arith) o.4 in
    (cc, cc, i.2, cc)

-- Two lists that spell a beginning of the same bytes are the same, and so are the beginnings.
pub one_spelled : {xs ys : List LogItem} {rows more : List EntryIndex} {m n : ℕ} {x y : List ℕ} (r z : List ℕ) → Spells (NumberIn Any) xs rows m x → Spells (NumberIn Any) ys more n y
    → x ++ r ≡ y ++ z → (xs ≡ ys) × (rows ≡ more) × (m ≡ n) × (x ≡ y)
one_spelled r z (list {count = a} {bytes = x} h k) (list {count = b} {bytes = y} g l) e =
    let o = one_number (x ++ r) (y ++ z) h g (cc (append_assoc a x r, append_assoc b y z)) in
    let i = one_items r z k (rw (← o.1) at l) o.0 o.2 in
    (i.0, i.1, i.2, cc)
