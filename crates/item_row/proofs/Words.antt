-- How many words rows have, and the words of a list with one row more.
-- Assumes nothing.
use Prim.Native.Nat.{ℕ, suc, ◌*◌}
use mathlib.Core.Path.{◌≡◌, refl, sym, ap}
use mathlib.Core.List.{List, [], ◌∷◌, ◌++◌, flat_map, append_assoc, append-nil}
use native.Mathlib.Nat.{zero-mul, suc-mul, add_comm}
use lib.ListN.{length, length-append}
use Rattle.log_item.specs.declared.Span.{Span}
use Rattle.log_item.specs.declared.Command.TheVariants.{Clean, Compact}
use Rattle.log_item.specs.declared.Op.{Op}
use Rattle.log_item.specs.declared.Op.TheVariants.{Put, Del}
use Rattle.log_item.specs.declared.LogItemContent.{LogItemContent}
use Rattle.log_item.specs.declared.LogItemContent.TheVariants as contents
use Rattle.log_item.specs.declared.LogItem.{LogItem}
use Rattle.log_item.specs.declared.EntryIndex.{EntryIndex}
use Rattle.item_row.specs.Row.{command_words, key_words, content_words, item_words, entry_words, items_words, entries_words}

key_length : (key : Span) (op : Op) → length (key_words key op) ≡ 6
unfolding key_words
key_length key (Put v) = refl
key_length key Del = refl

content_length : (c : LogItemContent) → length (content_words c) ≡ 6
unfolding content_words command_words
content_length (contents.EntryIndexes e) = refl
content_length (contents.Command Clean) = refl
content_length (contents.Command (Compact i)) = refl
content_length (contents.Kv k) = key_length k.key k.op

pub item_words_length : (x : LogItem) → length (item_words x) ≡ 7
unfolding item_words
item_words_length x = ap suc (content_length x.content)

-- ---- one row after the other

module _ {A : Type 0} (words : A → List ℕ) where
  flat_length : {n : ℕ} → ((x : A) → length (words x) ≡ n) → (xs : List A) → length (flat_map words xs) ≡ length xs * n
  unfolding flat_map
  flat_length {n} e [] = sym (zero-mul n)
  flat_length {n} e (x ∷ xs) = rw (length-append, e x, flat_length e xs, suc-mul) (add_comm n (length xs * n))

  pub flat_more : (xs : List A) (x : A) → flat_map words (xs ++ (x ∷ [])) ≡ flat_map words xs ++ words x
  unfolding flat_map
  flat_more [] x = append-nil (words x)
  flat_more (y ∷ xs) x = rw (flat_more xs x, append_assoc)

pub items_words_length : (xs : List LogItem) → length (items_words xs) ≡ length xs * 7
items_words_length xs = flat_length item_words item_words_length xs

pub entries_words_length : (rows : List EntryIndex) → length (entries_words rows) ≡ length rows * 3
unfolding entry_words
entries_words_length rows = flat_length entry_words (λ r. refl) rows
