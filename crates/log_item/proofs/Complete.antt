-- What is spelled at a place, within the limits, is read there.
-- Assumes nothing.
use Prim.Native.Nat.{ℕ, suc, ◌+◌, ◌≤◌}
use mathlib.Core.Path.{◌≡◌, refl, sym, ap}
use mathlib.Core.List.{List, [], ◌∷◌}
use native.Mathlib.Omega.{arith}
use lib.ListN.{length, length-append}
use borrow.Author.Tests.{le-leb}
use Rattle.log_item.specs.declared.Form.{Form}
use Rattle.log_item.specs.declared.Span.{Span}
use Rattle.log_item.specs.declared.LogItemContent.{LogItemContent}
use Rattle.log_item.specs.declared.LogItem.{LogItem}
use Rattle.log_item.specs.declared.EntryIndex.{EntryIndex}
use Rattle.log_item.specs.Entries.{entries_of, type_of}
use Rattle.log_item.specs.Got.{got}
use Rattle.log_item.specs.Each.{Each, one}
use Rattle.log_item.specs.Limits.{RowFits}
use Rattle.log_item.specs.Spelling.{NumberIn, Spanned, spanned, Contents, no_entries, entries, clean, compact, put, delete, Tails, no_more, next, OneItem, item}
use Rattle.words.specs.Place.{At}
use Rattle.log_item.specs.Pieces.{span}
use Rattle.log_item.specs.Reading.{command, put_at, key_value_of, first_index_of, entry_count_of, entry_indexes, content, head, tail, tails, one_item}
use Rattle.words.proofs.Place.{cut, at_inside}
use Rattle.log_item.proofs.Numbers.{complete_byte, number_some, complete_number}

-- There are as many rows as tails.
pub tails_length : {N : ℕ → List ℕ → Type 0} {n i t u : ℕ} {rows : List EntryIndex} {x : List ℕ} → Tails N n i rows t u x → length rows ≡ n
tails_length no_more = refl
tails_length (next num rises g) = ap suc (tails_length g)

-- The last of n + 1 consecutive indexes from i on is i + n, and fits.
last_index : {N : ℕ → List ℕ → Type 0} {n i t u : ℕ} {rows : List EntryIndex} {x : List ℕ} → Tails N (suc n) i rows t u x → Each RowFits rows
    → i + n ≤ 18446744073709551615
last_index (next num rises no_more) (one r e) = omega (arith, r.index)
last_index (next num rises (next a b g)) (one r e) = omega (arith, last_index (next a b g) e)

module _ (form : Form) {s : List ℕ} where
  -- A span that is spelled is read.
  pub complete_span : {k : Span} {p q : ℕ} {x : List ℕ} → Spanned (NumberIn form) k p x → At s p q x → span form s p ≡ got k q
  unfolding span
  complete_span {p = p} {q = q} (spanned {size = size} bytes num) f =
      let c = cut size f in
      let e : p + length size + length bytes ≡ q = sym c.1.ends in
      let fits : q ≤ length s = at_inside f (omega (arith, number_some form _ size num, length-append size bytes)) in
      rw (complete_number form num c.0, e, le-leb _ _ fits)

  -- Tails that are spelled, with rows within the limits, are read.
  pub complete_tails : {n i t u : ℕ} {rows : List EntryIndex} {x : List ℕ} → Tails (NumberIn form) n i rows t u x → Each RowFits rows → {p q : ℕ} → At s p q x
      → tails form s n i t p ≡ got (rows, u) q
  unfolding tails tail
  complete_tails no_more each {p} {q} f = let e : p ≡ q = omega (arith, f.ends) in rw e
  complete_tails (next {w = w} {tail = x} num rises g) (one r e) f =
      let c = cut x f in
      let small : w ≤ 4294967295 = omega (arith, r.tail) in
      rw (complete_number form num c.0, le-leb _ _ small, le-leb _ _ rises, complete_tails g e c.1)

  -- A content that is spelled, with rows within the limits, is read up to its tails.
  pub complete_content : (e : ℕ) {c : LogItemContent} {p : ℕ} {x : List ℕ} → Contents (NumberIn form) c p x → {rows : List EntryIndex} {t u : ℕ} {y : List ℕ}
      → Tails (NumberIn form) (entries_of c).count (entries_of c).first_index rows t u y → Each RowFits rows → e + length rows ≤ 1024 → {q : ℕ} → At s p q x
      → content form s e (type_of c) p ≡ got c q
  unfolding content entry_indexes entry_count_of first_index_of command key_value_of put_at
  complete_content e (no_entries h) g each few f =
      let small : e + 0 ≤ 1024 = omega arith in
      rw (complete_number form h f, le-leb _ _ small)
  complete_content e (entries {n = n} {count = count} h num) g each few f =
      let c = cut count f in
      let small : e + suc n ≤ 1024 = omega (arith, tails_length g) in
      rw (complete_number form h c.0, le-leb _ _ small, complete_number form num c.1, le-leb _ _ (last_index g each))
  complete_content e clean g each few f = rw (complete_byte f)
  complete_content e (compact num) g each few f = let c = cut (2 ∷ []) f in rw (complete_byte c.0, complete_number form num c.1)
  complete_content e (put {key = key} k v) g each few f =
      let c = cut (1 ∷ []) f in
      let d = cut key c.1 in
      rw (complete_byte c.0, complete_span k d.0, complete_span v d.1)
  complete_content e (delete k) g each few f = let c = cut (2 ∷ []) f in rw (complete_byte c.0, complete_span k c.1)

  -- An item that is spelled, with rows within the limits and e entries before it, is read.
  pub complete_item : (e : ℕ) {x : LogItem} {rows : List EntryIndex} {t u p : ℕ} {bytes : List ℕ} → OneItem (NumberIn form) x rows t u p bytes
      → Each RowFits rows → e + length rows ≤ 1024 → {q : ℕ} → At s p q bytes
      → one_item form s e t p ≡ got (record { item = x; rows = rows; total = u }) q
  unfolding one_item head
  complete_item e (item {c = x} {group = group} {bytes = bytes} num h g) each few f =
      let c = cut group f in
      let d = cut (type_of x ∷ []) c.1 in
      let k = cut bytes d.1 in
      rw (complete_number form num c.0, complete_byte d.0, complete_content e h g each few k.0, complete_tails g each k.1)
