-- Where numbers of one spelling are numbers of another, so are the items.
-- Assumes nothing.
use Prim.Native.Nat.{ℕ}
use mathlib.Core.List.{List}
use Rattle.log_item.specs.declared.Form.{Form}
use Rattle.log_item.specs.declared.Form.TheVariants.{Any, Plain}
use Rattle.log_item.specs.declared.Span.{Span}
use Rattle.log_item.specs.declared.LogItemContent.{LogItemContent}
use Rattle.log_item.specs.declared.LogItem.{LogItem}
use Rattle.log_item.specs.declared.EntryIndex.{EntryIndex}
use Rattle.log_item.specs.Spelling.{NumberIn, Spanned, spanned, Contents, no_entries, entries, clean, compact, put, delete, Tails, no_more, next, OneItem, item}
use Rattle.log_item.proofs.Numbers.{plain_any}

module _ (N M : ℕ → List ℕ → Type 0) (f : (n : ℕ) (x : List ℕ) → N n x → M n x) where
  -- Where numbers of N are numbers of M, so are spans, contents and tails.
  span_as : {k : Span} {p : ℕ} {x : List ℕ} → Spanned N k p x → Spanned M k p x
  span_as (spanned bytes num) = spanned bytes (f _ _ num)

  contents_as : {c : LogItemContent} {p : ℕ} {x : List ℕ} → Contents N c p x → Contents M c p x
  contents_as (no_entries h) = no_entries (f _ _ h)
  contents_as (entries h num) = entries (f _ _ h) (f _ _ num)
  contents_as clean = clean
  contents_as (compact num) = compact (f _ _ num)
  contents_as (put k v) = put (span_as k) (span_as v)
  contents_as (delete k) = delete (span_as k)

  tails_as : {n i t u : ℕ} {rows : List EntryIndex} {x : List ℕ} → Tails N n i rows t u x → Tails M n i rows t u x
  tails_as no_more = no_more
  tails_as (next num rises g) = next (f _ _ num) rises (tails_as g)

  -- An item in numbers of the one spelling is an item in numbers of the other.
  pub item_as : {x : LogItem} {rows : List EntryIndex} {t u p : ℕ} {bytes : List ℕ} → OneItem N x rows t u p bytes → OneItem M x rows t u p bytes
  item_as (item num c g) = item (f _ _ num) (contents_as c) (tails_as g)

-- An item in shortest numbers is an item in either form.
pub in_form : (form : Form) {x : LogItem} {rows : List EntryIndex} {t u p : ℕ} {bytes : List ℕ} → OneItem (NumberIn Plain) x rows t u p bytes
    → OneItem (NumberIn form) x rows t u p bytes
in_form Any h = item_as (NumberIn Plain) (NumberIn Any) plain_any h
in_form Plain h = h
