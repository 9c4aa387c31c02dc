-- Bytes begin with at most one item: two that spell a beginning of the same bytes are the same, within the limits or not.
-- Each lemma takes two spellings with the bytes behind them, r and z, and says that the bytes behind them are the same too.
-- Assumes nothing.
use Prim.Native.Nat.{ℕ}
use mathlib.Core.Path.{◌≡◌, refl}
use mathlib.Core.List.{List, ◌∷◌, ◌++◌, append_assoc, append_cancel_left}
use native.Mathlib.Omega.{arith}
use Rattle.words.proofs.Bytes.{as_long}
use Rattle.codec.proofs.Theorems.{one_spelling}
use Rattle.log_item.specs.declared.Form.TheVariants.{Any}
use Rattle.log_item.specs.declared.Span.{Span}
use Rattle.log_item.specs.declared.Command.{Command}
use Rattle.log_item.specs.declared.KeyValue.{KeyValue}
use Rattle.log_item.specs.declared.EntryIndexes.{EntryIndexes}
use Rattle.log_item.specs.declared.LogItemContent.{LogItemContent}
use Rattle.log_item.specs.declared.LogItemContent.TheVariants as content
use Rattle.log_item.specs.declared.LogItem.{LogItem}
use Rattle.log_item.specs.declared.EntryIndex.{EntryIndex}
use Rattle.log_item.specs.Entries.{type_of}
use Rattle.log_item.specs.Spelling.{NumberIn, Spanned, spanned, Contents, no_entries, entries, clean, compact, put, delete, Tails, no_more, next, OneItem, item}

-- The same bytes without the same beginning are the same.
rest : {x y : List ℕ} (r z : List ℕ) → x ≡ y → x ++ r ≡ y ++ z → r ≡ z
rest {x} r z same e = append_cancel_left x r z (rw (← same) at e)

-- Numbers in any spelling.
pub one_number : {n m : ℕ} {x y : List ℕ} (r z : List ℕ) → NumberIn Any n x → NumberIn Any m y → x ++ r ≡ y ++ z → (n ≡ m) × (x ≡ y) × (r ≡ z)
one_number r z h g e = let o = one_spelling r z h g e in (o.0, o.1, rest r z o.1 e)

-- Spans that begin at one place.
pub one_span : {k l : Span} {p : ℕ} {x y : List ℕ} (r z : List ℕ) → Spanned (NumberIn Any) k p x → Spanned (NumberIn Any) l p y → x ++ r ≡ y ++ z → (k ≡ l) × (x ≡ y) × (r ≡ z)
one_span r z (spanned {size = a} x h) (spanned {size = b} y g) e =
    let o = one_number (x ++ r) (y ++ z) h g (cc (append_assoc a x r, append_assoc b y z)) in
    let same : x ≡ y = as_long x y r z o.0 o.2 in
    (cc, cc, rest r z same o.2)

-- Contents of entries, commands and keys.
pub one_entries : {c d : EntryIndexes} {p : ℕ} {x y : List ℕ} (r z : List ℕ) → Contents (NumberIn Any) (content.EntryIndexes c) p x → Contents (NumberIn Any) (content.EntryIndexes d) p y
    → x ++ r ≡ y ++ z → (content.EntryIndexes c ≡ content.EntryIndexes d) × (x ≡ y) × (r ≡ z)
one_entries r z (no_entries h) (no_entries g) e = let o = one_number r z h g e in (refl, o.1, o.2)
one_entries r z (no_entries h) (entries {count = b} {first = y} g f) e = let o = one_number r (y ++ z) h g (cc (append_assoc b y z)) in absurd (omega (arith, o.0))
one_entries r z (entries {count = a} {first = x} h k) (no_entries g) e = let o = one_number (x ++ r) z h g (cc (append_assoc a x r)) in absurd (omega (arith, o.0))
one_entries r z (entries {count = a} {first = x} h k) (entries {count = b} {first = y} g f) e =
    let o = one_number (x ++ r) (y ++ z) h g (cc (append_assoc a x r, append_assoc b y z)) in
    let i = one_number r z k f o.2 in
    (cc, cc, i.2)

pub one_command : {c d : Command} {p : ℕ} {x y : List ℕ} (r z : List ℕ) → Contents (NumberIn Any) (content.Command c) p x → Contents (NumberIn Any) (content.Command d) p y
    → x ++ r ≡ y ++ z → (content.Command c ≡ content.Command d) × (x ≡ y) × (r ≡ z)
one_command r z clean clean e = (refl, refl, cc)
one_command r z clean (compact g) e = let n : ◌≡◌ {A = ℕ} 1 2 = cc in absurd (omega arith)
one_command r z (compact h) clean e = let n : ◌≡◌ {A = ℕ} 1 2 = cc in absurd (omega arith)
one_command r z (compact h) (compact g) e = let o = one_number r z h g (cc) in (cc, cc, o.2)

pub one_key : {c d : KeyValue} {p : ℕ} {x y : List ℕ} (r z : List ℕ) → Contents (NumberIn Any) (content.Kv c) p x → Contents (NumberIn Any) (content.Kv d) p y
    → x ++ r ≡ y ++ z → (content.Kv c ≡ content.Kv d) × (x ≡ y) × (r ≡ z)
one_key r z (put {key = a} {value = x} h k) (put {key = b} {value = y} g f) e =
    let o = one_span (x ++ r) (y ++ z) h g (cc (append_assoc a x r, append_assoc b y z)) in
    let v = one_span r z k (rw (← o.1) at f) o.2 in
    (cc, cc, v.2)
one_key r z (put h k) (delete g) e = let n : ◌≡◌ {A = ℕ} 1 2 = cc in absurd (omega arith)
one_key r z (delete h) (put g f) e = let n : ◌≡◌ {A = ℕ} 1 2 = cc in absurd (omega arith)
one_key r z (delete h) (delete g) e = let o = one_span r z h g (cc) in (cc, cc, o.2)

-- Contents of one type.
pub one_contents : (c d : LogItemContent) {p : ℕ} {x y : List ℕ} (r z : List ℕ) → Contents (NumberIn Any) c p x → Contents (NumberIn Any) d p y → type_of c ≡ type_of d
    → x ++ r ≡ y ++ z → (c ≡ d) × (x ≡ y) × (r ≡ z)
one_contents (content.EntryIndexes c) (content.EntryIndexes d) r z h g k e = one_entries r z h g e
one_contents (content.EntryIndexes c) (content.Command d) r z h g k e = absurd (omega arith)
one_contents (content.EntryIndexes c) (content.Kv d) r z h g k e = absurd (omega arith)
one_contents (content.Command c) (content.EntryIndexes d) r z h g k e = absurd (omega arith)
one_contents (content.Command c) (content.Command d) r z h g k e = one_command r z h g e
one_contents (content.Command c) (content.Kv d) r z h g k e = absurd (omega arith)
one_contents (content.Kv c) (content.EntryIndexes d) r z h g k e = absurd (omega arith)
one_contents (content.Kv c) (content.Command d) r z h g k e = absurd (omega arith)
one_contents (content.Kv c) (content.Kv d) r z h g k e = one_key r z h g e

-- As many tails, from one index and one total on.
pub one_tails : {n i t u v : ℕ} {rows more : List EntryIndex} {x y : List ℕ} (r z : List ℕ) → Tails (NumberIn Any) n i rows t u x → Tails (NumberIn Any) n i more t v y
    → x ++ r ≡ y ++ z → (rows ≡ more) × (u ≡ v) × (x ≡ y) × (r ≡ z)
one_tails r z no_more no_more e = (refl, refl, refl, e)
one_tails r z (next {tail = a} {later = x} h k f) (next {tail = b} {later = y} g l m) e =
    let o = one_number (x ++ r) (y ++ z) h g (cc (append_assoc a x r, append_assoc b y z)) in
    let t = one_tails r z f (rw (← o.0) at m) o.2 in
    (cc, t.1, cc, t.3)

-- Items that begin at one place, with one total before them.
pub one_item_lem : {v w : LogItem} {rows more : List EntryIndex} {t m n p : ℕ} {x y : List ℕ} (r z : List ℕ) → OneItem (NumberIn Any) v rows t m p x → OneItem (NumberIn Any) w more t n p y
    → x ++ r ≡ y ++ z → (v ≡ w) × (rows ≡ more) × (m ≡ n) × (x ≡ y) × (r ≡ z)
one_item_lem r z (item {c = c} {group = a} {bytes = x} {tails = s} h k f) (item {c = d} {group = b} {bytes = y} {tails = t} g l m) e =
    let front = one_number (type_of c ∷ ((x ++ s) ++ r)) (type_of d ∷ ((y ++ t) ++ z)) h g (cc (append_assoc a (type_of c ∷ (x ++ s)) r, append_assoc b (type_of d ∷ (y ++ t)) z)) in
    let kind : type_of c ≡ type_of d = cc in
    let inner = one_contents c d (s ++ r) (t ++ z) k (rw (← front.1) at l) kind (cc (append_assoc x s r, append_assoc y t z)) in
    let tail = one_tails r z f (rw (← inner.0) at m) inner.2 in
    (cc, tail.0, tail.1, cc, tail.3)
