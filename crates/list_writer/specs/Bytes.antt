-- The bytes that a writer writes for a body: item count, items, footer.
-- Assumes nothing.
use Rattle.std.specs.Prelude.{ℕ, zero, suc, List, [], ◌∷◌, ◌++◌, map, length, take, drop}
use Rattle.std.specs.Int.Bits.{bit_xor}
use Rattle.codec.specs.Shortest.{shortest}
use Rattle.log_item.specs.Blank.{blank_item}
use Rattle.log_item.specs.Entries.{entries_of}
use Rattle.log_item.specs.declared.LogItem.{LogItem}
use Rattle.log_item.specs.declared.EntryIndex.{EntryIndex}
use Rattle.log_item.specs.Written.{sum_of, row_lengths, item_bytes}
use Rattle.words.specs.Word.{little_endian_bytes}
use Rattle.crc.specs.Crc.{crc_of}

-- the items of a table of 256 rows, as many as it says: blank ones behind its rows, so that a count above 256 is seen as a 9
unfoldable pub items_of : List LogItem → ℕ → List LogItem
items_of items zero = []
items_of [] (suc n) = blank_item ∷ items_of [] n
items_of (x ∷ items) (suc n) = x ∷ items_of items n

-- the lengths of its entry rows, as many as it says and has
unfoldable pub lengths_of : List EntryIndex → ℕ → List ℕ
lengths_of entries n = map (λ (r : EntryIndex). r.entry_len) (take n entries)

-- items, each with the next of the lengths for its tails; the total t runs on
unfoldable pub items_bytes : List ℕ → List LogItem → List ℕ → ℕ → List ℕ
items_bytes s [] lengths t = []
items_bytes s (x ∷ xs) lengths t =
    item_bytes s x lengths t
    ++ items_bytes s xs (drop (entries_of x.content).count lengths) (sum_of t (row_lengths x lengths))

-- item count, items
unfoldable pub list_bytes : List ℕ → List LogItem → List ℕ → List ℕ
list_bytes s xs lengths = shortest (length xs) ++ items_bytes s xs lengths 0

-- the footer of bytes: checksum XOR signature, little-endian
abbrev pub footer_bytes : ℕ → List ℕ → List ℕ
footer_bytes signature bs = little_endian_bytes 4 (bit_xor (crc_of bs) signature)

-- bytes and their footer
unfoldable pub footed : ℕ → List ℕ → List ℕ
footed signature bs = bs ++ footer_bytes signature bs

-- item count, items, footer
abbrev pub body_bytes : List ℕ → List LogItem → List ℕ → ℕ → List ℕ
body_bytes s xs lengths signature = footed signature (list_bytes s xs lengths)
