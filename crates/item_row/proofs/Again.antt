-- The row of an item spells that item.
-- Assumes nothing.
use Prim.Native.Nat.{ℕ}
use mathlib.Core.Path.{◌≡◌, refl}
use mathlib.Core.List.{◌∷◌}
use Rattle.log_item.specs.declared.Command.TheVariants.{Clean, Compact}
use Rattle.log_item.specs.declared.Span.{Span}
use Rattle.log_item.specs.declared.Op.{Op}
use Rattle.log_item.specs.declared.Op.TheVariants.{Put, Del}
use Rattle.log_item.specs.declared.LogItemContent.{LogItemContent}
use Rattle.log_item.specs.declared.LogItemContent.TheVariants as contents
use Rattle.log_item.specs.declared.LogItem.{LogItem}
use Rattle.std.specs.Prelude.{Ok}
use Rattle.item_row.specs.Row.{item_of, command_row, key_row, row_item, item_of_row, command_words, key_words, content_words, item_words}

pub spells_again : (x : LogItem) → item_of_row (item_words x) 0 ≡ Ok x
unfolding item_of_row row_item command_row key_row item_words content_words command_words key_words
spells_again x = go x.content
  where
    g : ℕ
    g = x.raft_group_id

    with_op : (key : Span) (op : Op) → item_of_row (g ∷ key_words key op) 0 ≡ item_of g (contents.Kv (record { key = key; op = op }))
    with_op key (Put v) = refl
    with_op key Del = refl

    go : (c : LogItemContent) → item_of_row (g ∷ content_words c) 0 ≡ item_of g c
    go (contents.EntryIndexes e) = refl
    go (contents.Command Clean) = refl
    go (contents.Command (Compact i)) = refl
    go (contents.Kv k) = with_op k.key k.op
