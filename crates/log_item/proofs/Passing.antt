-- Going over an item without making it: what the code finds, which keeps a place, a total and a number of entries.
-- Assumes nothing.
use Prim.Native.Nat.{ℕ, ◌+◌}
use mathlib.Core.Path.{◌≡◌, refl, sym, ap, ◌∙◌}
use mathlib.Core.List.{List}
use Rattle.log_item.specs.Got.{Got, got, refused, done, bind}
use Rattle.log_item.specs.Entries.{entries_of}
use Rattle.log_item.specs.Pieces.{byte, number}
use Rattle.log_item.specs.Reading.{entry_indexes, content, head}
use Rattle.log_item.specs.Answers.{pass_item}
use Rattle.log_item.specs.Passing.{pass_tails, pass_stated, pass_entries, pass_content}
use Rattle.log_item.specs.declared.Form.{Form}
use Rattle.log_item.specs.declared.EntryIndexes.{EntryIndexes}
use Rattle.log_item.specs.declared.ItemRead.{ItemRead}
use Rattle.log_item.specs.declared.LogItem.{LogItem}
use Rattle.log_item.specs.declared.LogItemContent.{LogItemContent}
use Rattle.log_item.specs.declared.LogItemContent.TheVariants as contents
use Rattle.log_item.specs.declared.Passed.{Passed}
use Rattle.log_item.proofs.Counted.{passing, item_rows, item_no_head}

module _ (form : Form) (s : List ℕ) (e t : ℕ) where
  -- Entries are a content of type 1.
  pub passed_entries : (b p : ℕ) → b ≡ 1 → pass_entries form s e t p ≡ pass_content form s e t b p
  unfolding pass_content content pass_entries
  passed_entries b p k = rw k (go (entry_indexes form s e p))
    where
      go : (m : Got EntryIndexes) → bind m (pass_stated form s e t)
          ≡ bind (bind m (λ x. done (contents.EntryIndexes x))) (λ c. pass_stated form s e t (entries_of c))
      go (got x q) = refl
      go (refused r) = refl

  -- An item is its group number, its type, and a content of that type with its tails.
  pub passed_item : (p : ℕ) {g q b z : ℕ} → number form s p ≡ got g q → byte s q ≡ got b z → pass_content form s e t b z ≡ pass_item form s e t p
  unfolding pass_content pass_item head
  passed_item p {g} {q} {b} {z} f h = go (content form s e b z) refl
    where
      -- the tails, with the item or without
      by_tails : (x : LogItem) (q n : ℕ) (m : Got ℕ)
          → bind m (λ u. done (record { total = u; used = n })) ≡ bind {A = ItemRead} {B = Passed} (bind m (passing x q n)) (λ r. done (record { total = r.total; used = r.used }))
      by_tails x q n (got u y) = refl
      by_tails x q n (refused r) = refl

      go : (m : Got LogItemContent) → content form s e b z ≡ m → bind m (λ c. pass_stated form s e t (entries_of c)) ≡ pass_item form s e t p
      go (got c y) k =
          let x : LogItem = record { raft_group_id = g; content = c } in
          let all : head form s e p ≡ got x y = rw (f, h, k) in
          by_tails x y (e + (entries_of c).count) (pass_tails form s (entries_of c).count t y)
          ∙ ap (λ m. bind m (λ r. done (record { total = r.total; used = r.used }))) (sym (item_rows form s e t p all refl))
      go (refused r) k =
          let none : head form s e p ≡ refused r = rw (f, h, k) in
          ap (λ m. bind m (λ r. done (record { total = r.total; used = r.used }))) (item_no_head form s e t p none)
