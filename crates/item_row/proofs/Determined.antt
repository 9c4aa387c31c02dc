-- No second answer: two results, or two later contents of a row, that meet one contract are equal.
-- Assumes nothing.
use mathlib.Core.Path.{◌≡◌, sym, ◌∙◌}
use Rattle.one_answer.specs.OneAnswer.{OneAnswer}
use Rattle.item_row.proofs.item_of.Kinds as item_of_kinds
use Rattle.item_row.proofs.item_of.Reads as item_of_reads
use Rattle.item_row.proofs.store_words.Kinds as store_words_kinds
use Rattle.item_row.proofs.store_words.Reads as store_words_reads
use Rattle.item_row.proofs.entry_words_of.Kinds as entry_words_of_kinds
use Rattle.item_row.proofs.entry_words_of.Reads as entry_words_of_reads
use Rattle.item_row.proofs.LogItemItemRow.item.Kinds as item_log_item_kinds
use Rattle.item_row.proofs.LogItemItemRow.item.Reads as item_log_item_reads
use Rattle.item_row.proofs.ArrayU647ItemRow.item.Kinds as item_words7_kinds
use Rattle.item_row.proofs.ArrayU647ItemRow.item.Reads as item_words7_reads
use Rattle.item_row.proofs.EntryIndexEntryRow.entry_len.Kinds as entry_len_entry_index_kinds
use Rattle.item_row.proofs.EntryIndexEntryRow.entry_len.Reads as entry_len_entry_index_reads
use Rattle.item_row.proofs.ArrayU643EntryRow.entry_len.Kinds as entry_len_words3_kinds
use Rattle.item_row.proofs.ArrayU643EntryRow.entry_len.Reads as entry_len_words3_reads

pub item_of : OneAnswer 1 item_of_kinds.ps item_of_kinds.r item_of_reads.Post (λ κs x y s t. x ≡ y)
item_of κs a x y s t p q = p ∙ sym q

pub store_words : OneAnswer 1 store_words_kinds.ps store_words_kinds.r store_words_reads.Post (λ κs x y s t. s.1.0.now ≡ t.1.0.now)
store_words κs a x y s t p q = p ∙ sym q

pub entry_words_of : OneAnswer 0 entry_words_of_kinds.ps entry_words_of_kinds.r entry_words_of_reads.Post (λ κs x y s t. x ≡ y)
entry_words_of κs a x y s t p q = p ∙ sym q

pub item_log_item : OneAnswer 1 item_log_item_kinds.ps item_log_item_kinds.r item_log_item_reads.Post (λ κs x y s t. x ≡ y)
item_log_item κs a x y s t p q = p ∙ sym q

pub item_words7 : OneAnswer 1 item_words7_kinds.ps item_words7_kinds.r item_words7_reads.Post (λ κs x y s t. x ≡ y)
item_words7 κs a x y s t p q = p ∙ sym q

pub entry_len_entry_index : OneAnswer 1 entry_len_entry_index_kinds.ps entry_len_entry_index_kinds.r entry_len_entry_index_reads.Post (λ κs x y s t. x ≡ y)
entry_len_entry_index κs a x y s t p q = p ∙ sym q

pub entry_len_words3 : OneAnswer 1 entry_len_words3_kinds.ps entry_len_words3_kinds.r entry_len_words3_reads.Post (λ κs x y s t. x ≡ y)
entry_len_words3 κs a x y s t p q = p ∙ sym q
