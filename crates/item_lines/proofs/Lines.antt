-- The pieces of a line, as the code puts them, are the line.
-- Assumes nothing.
use Prim.Native.Nat.{ℕ}
use mathlib.Core.Path.{◌≡◌, ap}
use mathlib.Core.List.{List, [], ◌∷◌, ◌++◌, append_assoc}
use Rattle.log_item.specs.declared.Command.{Command}
use Rattle.log_item.specs.declared.Command.TheVariants.{Clean, Compact}
use Rattle.log_item.specs.declared.Op.{Op}
use Rattle.log_item.specs.declared.Op.TheVariants.{Put, Del}
use Rattle.log_item.specs.declared.Span.{Span}
use Rattle.log_item.specs.declared.EntryIndex.{EntryIndex}
use Rattle.item_lines.specs.Decimal.{decimal}
use Rattle.item_lines.specs.Line.{space, line_end, clean, compact, put, del, entry, items, entries, bytes, refused, line}
use Rattle.item_lines.specs.Line.{command_line, op_line, entry_line, sums_line, refused_line}

-- A line that is put together from its words and numbers, one behind the other, is the line.
pub clean_same : (g : ℕ) {c : Command} {l m1 r : List ℕ} → c ≡ Clean
    → l ≡ []
    → m1 ≡ l ++ [] ++ decimal g
    → r ≡ m1 ++ (space ∷ clean ++ (line_end ∷ [])) → r ≡ command_line g c
unfolding command_line line
clean_same g e0 e1 e2 e3 = rw (e3, e2, e1, e0) (simp append_assoc)

pub compact_same : (g : ℕ) {c : Command} {i : ℕ} {l m1 m2 r : List ℕ} → c ≡ Compact i
    → l ≡ []
    → m1 ≡ l ++ [] ++ decimal g
    → m2 ≡ m1 ++ (space ∷ compact ++ (space ∷ [])) ++ decimal i
    → r ≡ m2 ++ (line_end ∷ []) → r ≡ command_line g c
unfolding command_line line
compact_same g e0 e1 e2 e3 e4 = rw (e4, e3, e2, e1, e0) (simp append_assoc)

pub put_same : (g k : ℕ) {o : Op} {v : Span} {l m1 m2 m3 r : List ℕ} → o ≡ Put v
    → l ≡ []
    → m1 ≡ l ++ [] ++ decimal g
    → m2 ≡ m1 ++ (space ∷ put ++ (space ∷ [])) ++ decimal k
    → m3 ≡ m2 ++ (space ∷ []) ++ decimal v.len
    → r ≡ m3 ++ (line_end ∷ []) → r ≡ op_line g k o
unfolding op_line line
put_same g k e0 e1 e2 e3 e4 e5 = rw (e5, e4, e3, e2, e1, e0) (simp append_assoc)

pub del_same : (g k : ℕ) {o : Op} {l m1 m2 r : List ℕ} → o ≡ Del
    → l ≡ []
    → m1 ≡ l ++ [] ++ decimal g
    → m2 ≡ m1 ++ (space ∷ del ++ (space ∷ [])) ++ decimal k
    → r ≡ m2 ++ (line_end ∷ []) → r ≡ op_line g k o
unfolding op_line line
del_same g k e0 e1 e2 e3 e4 = rw (e4, e3, e2, e1, e0) (simp append_assoc)

pub entry_same : (g : ℕ) (row : EntryIndex) {o n : ℕ} {l m1 m2 m3 m4 r : List ℕ} → o ≡ row.entry_offset
    → n ≡ row.entry_len
    → l ≡ []
    → m1 ≡ l ++ [] ++ decimal g
    → m2 ≡ m1 ++ (space ∷ entry ++ (space ∷ [])) ++ decimal row.index
    → m3 ≡ m2 ++ (space ∷ []) ++ decimal o
    → m4 ≡ m3 ++ (space ∷ []) ++ decimal n
    → r ≡ m4 ++ (line_end ∷ []) → r ≡ entry_line g row
unfolding entry_line line
entry_same g row e0 e1 e2 e3 e4 e5 e6 e7 = rw (e7, e6, e5, e4, e3, e2, e0, e1) (simp append_assoc)

behind_items : (i e b : ℕ) → (decimal i ++ (space ∷ entries ++ (space ∷ [])) ++ decimal e) ++ (space ∷ bytes ++ (space ∷ [])) ++ decimal b ++ (line_end ∷ []) ≡ line (decimal i) (entries ∷ decimal e ∷ bytes ∷ decimal b ∷ [])
unfolding line
behind_items i e b = simp append_assoc

pub sums_same : (i e b : ℕ) {l m1 m2 m3 r : List ℕ} → l ≡ []
    → m1 ≡ l ++ (items ++ (space ∷ [])) ++ decimal i
    → m2 ≡ m1 ++ (space ∷ entries ++ (space ∷ [])) ++ decimal e
    → m3 ≡ m2 ++ (space ∷ bytes ++ (space ∷ [])) ++ decimal b
    → r ≡ m3 ++ (line_end ∷ []) → r ≡ sums_line i e b
unfolding sums_line line
sums_same i e b e0 e1 e2 e3 e4 = rw (e4, e3, e2, e1, e0) (ap (λ (t : List ℕ). items ++ (space ∷ t)) (behind_items i e b))

behind_refused : (n i : ℕ) → decimal n ++ (space ∷ []) ++ decimal i ++ (line_end ∷ []) ≡ line (decimal n) (decimal i ∷ [])
unfolding line
behind_refused n i = simp append_assoc

pub refused_same : (number item : ℕ) {n : ℕ} {l m1 m2 r : List ℕ} → n ≡ number
    → l ≡ []
    → m1 ≡ l ++ (refused ++ (space ∷ [])) ++ decimal n
    → m2 ≡ m1 ++ (space ∷ []) ++ decimal item
    → r ≡ m2 ++ (line_end ∷ []) → r ≡ refused_line number item
unfolding refused_line line
refused_same number item e0 e1 e2 e3 e4 = rw (e4, e3, e2, e1, e0) (ap (λ (t : List ℕ). refused ++ (space ∷ t)) (behind_refused number item))
