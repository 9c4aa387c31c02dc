-- Which bytes spell which item, over any relation of numbers to their spellings: relations, piece by piece, with no reading procedure.
-- A place counts from the start of the body.
-- Assumes nothing.
use Rattle.std.specs.Prelude.{ℕ, suc, ◌+◌, ◌≤◌, ◌<◌, ◌^◌, ◌≡◌, List, [], ◌∷◌, ◌++◌, length}
use Rattle.codec.specs.Spelling as numbers
use Rattle.codec.specs.Shortest.{shortest}
use Rattle.log_item.specs.Entries.{entries_of, tail_row, type_of}
use Rattle.log_item.specs.declared.Form.{Form}
use Rattle.log_item.specs.declared.Form.TheVariants.{Any, Plain}
use Rattle.log_item.specs.declared.Span.{Span}
use Rattle.log_item.specs.declared.Command.TheVariants as command
use Rattle.log_item.specs.declared.Op.TheVariants as op
use Rattle.log_item.specs.declared.LogItemContent.{LogItemContent}
use Rattle.log_item.specs.declared.LogItemContent.TheVariants as content
use Rattle.log_item.specs.declared.LogItem.{LogItem}
use Rattle.log_item.specs.declared.EntryIndex.{EntryIndex}

-- A number in any permitted spelling, or in its shortest alone.
abbrev pub NumberIn : Form → ℕ → List ℕ → Type 0
NumberIn Any n bs = numbers.SpellsNumber n bs
NumberIn Plain n bs = (n < 2 ^ 64) × (bs ≡ shortest n)

module _ (Number : ℕ → List ℕ → Type 0) where
  -- A length, and as many bytes: the span is where those bytes stand.
  pub data Spanned : Span → ℕ → List ℕ → Type 0 where
    spanned : {p : ℕ} {size : List ℕ} (bytes : List ℕ) → Number (length bytes) size
        → Spanned (record { at = p + length size; len = length bytes }) p (size ++ bytes)

  -- A content from the place p on, up to its tails.
  pub data Contents : LogItemContent → ℕ → List ℕ → Type 0 where
    no_entries : {p : ℕ} {count : List ℕ} → Number 0 count → Contents (content.EntryIndexes (record { count = 0; first_index = 0 })) p count
    entries : {n i p : ℕ} {count first : List ℕ} → Number (suc n) count → Number i first
        → Contents (content.EntryIndexes (record { count = suc n; first_index = i })) p (count ++ first)
    clean : {p : ℕ} → Contents (content.Command command.Clean) p (1 ∷ [])
    compact : {i p : ℕ} {index : List ℕ} → Number i index → Contents (content.Command (command.Compact i)) p (2 ∷ index)
    put : {k v : Span} {p : ℕ} {key value : List ℕ} → Spanned k (p + 1) key → Spanned v (p + 1 + length key) value
        → Contents (content.Kv (record { key = k; op = op.Put v })) p (1 ∷ (key ++ value))
    delete : {k : Span} {p : ℕ} {key : List ℕ} → Spanned k (p + 1) key → Contents (content.Kv (record { key = k; op = op.Del })) p (2 ∷ key)

  -- n tails and their rows, with consecutive indexes from i on. A tail is the running total: t before the first, u after the last.
  pub data Tails : ℕ → ℕ → List EntryIndex → ℕ → ℕ → List ℕ → Type 0 where
    no_more : {i t : ℕ} → Tails 0 i [] t t []
    next : {n i t u w : ℕ} {rows : List EntryIndex} {tail later : List ℕ} → Number w tail → t ≤ w → Tails n (i + 1) rows w u later
        → Tails (suc n) i (tail_row i t w ∷ rows) t u (tail ++ later)

  -- An item from the place p on, its rows, and the total before and after it: group number, type byte, content, tails.
  pub data OneItem : LogItem → List EntryIndex → ℕ → ℕ → ℕ → List ℕ → Type 0 where
    item : {g : ℕ} {c : LogItemContent} {rows : List EntryIndex} {t u p : ℕ} {group bytes tails : List ℕ} → Number g group
        → Contents c (p + length group + 1) bytes → Tails (entries_of c).count (entries_of c).first_index rows t u tails
        → OneItem (record { raft_group_id = g; content = c }) rows t u p (group ++ (type_of c ∷ (bytes ++ tails)))
