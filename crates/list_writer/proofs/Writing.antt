-- What holds at the head of the loop that writes, and how a turn keeps it: there is room for each piece.
-- Assumes nothing.
use Prim.Native.Nat.{ℕ, ◌+◌, ◌-◌, ◌≤◌, ◌<◌}
use mathlib.Core.Path.{◌≡◌, sym, ap, ◌∙◌}
use mathlib.Core.Bool.{Bool, true, false}
use mathlib.Core.List.{List, ◌++◌}
use native.Mathlib.Omega.{arith}
use lib.Dec.{ltb}
use lib.ListN.{length, get_or, length-append}
use borrow.Author.Tests.{ltb-false}
use Rattle.std.specs.Prelude.{Ok}
use Rattle.refusal.specs.First.{fine}
use Rattle.codec.specs.Shortest.{shortest}
use Rattle.words.specs.Write.{next_at, placed}
use Rattle.log_item.specs.Entries.{entries_of}
use Rattle.log_item.specs.declared.LogItem.{LogItem}
use Rattle.log_item.specs.Bytes.{head_bytes}
use Rattle.log_item.specs.Refusing.{content_refusal, content_inside}
use Rattle.log_item.specs.Private.{Room, Stored}
use Rattle.log_item.proofs.Refusals.{content_inside_lem, content_allowed}
use Rattle.log_item.proofs.Stores.{stored_none, stored_at, stored_then, stored_length, stored_same}
use Rattle.log_item.specs.Blank.{blank_item}
use Rattle.list_writer.specs.Bytes.{items_bytes, list_bytes}
use Rattle.list_writer.specs.Refusing.{items_verdict}
use Rattle.list_writer.specs.Pieces.{head_next, head_placed}
use Rattle.list_writer.proofs.Pieces.{head_stored}
use Rattle.list_writer.proofs.Heads.{unless_fine, cond_fine}
use Rattle.list_writer.proofs.Rest.{rest_bytes, bytes_row, bytes_item, bytes_end, bytes_start, rest_verdict, told_row, told_item, told_start}

-- Storing what is left from `at` on completes the count and the items that begin at `start`; four bytes behind it stay free, and no refusal is left.
pub record Writing (s : List ℕ) (xs : List LogItem) (ns out₀ : List ℕ) (start : ℕ) (out : List ℕ) (at i j tails t : ℕ) : Type 0 where
  pub checked : Bool
  pub total : ℕ
  pub most : i ≤ length xs
  pub room : j + tails ≤ length ns
  pub within : j + tails ≤ 1024
  pub low : t ≤ 4294967295
  pub same : length out ≡ length out₀
  pub spare : at + length (rest_bytes s xs ns i j tails t) + 4 ≤ length out
  pub left : {n : ℕ} {later : List ℕ} → Stored out at (rest_bytes s xs ns i j tails t) n later → Stored out₀ start (list_bytes s xs ns) n later
  pub told : rest_verdict s xs ns checked i j tails t ≡ Ok total

-- Behind the count nothing but the items is left.
pub writing_start : (s : List ℕ) (checked : Bool) (xs : List LogItem) (ns : List ℕ) {out₀ out : List ℕ} {start at : ℕ} (total : ℕ)
    → items_verdict s checked xs ns 0 0 0 ≡ Ok total → Stored out₀ start (shortest (length xs)) at out
    → at + length (items_bytes s xs ns 0) + 4 ≤ length out → Writing s xs ns out₀ start out at 0 0 0 0
unfolding list_bytes
writing_start s checked xs ns total e p h =
    record {
      checked = checked;
      total = total;
      most = omega arith;
      room = omega arith;
      within = omega arith;
      low = omega arith;
      same = stored_length p;
      spare = omega (arith, ap length (bytes_start s xs ns));
      left = λ w. stored_then p (stored_same (sym (bytes_start s xs ns)) w);
      told = told_start s xs ns checked ∙ e;
    }

module _ {s : List ℕ} {xs : List LogItem} {ns out₀ : List ℕ} {start : ℕ} {out : List ℕ} {at i j tails t : ℕ}
    (w : Writing s xs ns out₀ start out at i j tails t) where
  -- what is left begins with bs
  module _ (bs rest : List ℕ) (e : rest_bytes s xs ns i j tails t ≡ bs ++ rest) where
    room_now : Room out at bs
    room_now = record { fits = omega (arith, w.spare, ap length e, length-append bs rest) }

    spare_now : {next : ℕ} {later : List ℕ} → Stored out at bs next later → next + length rest + 4 ≤ length later
    spare_now p = omega (arith, w.spare, p.after, stored_length p, ap length e, length-append bs rest)

    left_now : {next n : ℕ} {later last : List ℕ} → Stored out at bs next later → Stored later next rest n last → Stored out₀ start (list_bytes s xs ns) n last
    left_now p q = w.left (stored_same e (stored_then p q))

  -- a tail
  row_bytes : (r : ℕ) → 0 < tails → get_or ns j 0 ≡ r → rest_bytes s xs ns i j tails t ≡ shortest (t + r) ++ rest_bytes s xs ns i (j + 1) (tails - 1) (t + r)
  row_bytes r h e = rw e at (bytes_row s xs ns i j tails t h w.room)

  row_told : (r : ℕ) → 0 < tails → get_or ns j 0 ≡ r
      → (ltb 4294967295 (t + r) ≡ false) × (rest_verdict s xs ns w.checked i (j + 1) (tails - 1) (t + r) ≡ Ok w.total)
  row_told r h e =
      let v = rw e at (told_row s xs ns w.checked i j tails t h w.room) in
      cond_fine (ltb 4294967295 (t + r)) _ _ (sym v ∙ w.told)

  pub row_low : (r : ℕ) → 0 < tails → get_or ns j 0 ≡ r → t + r ≤ 4294967295
  row_low r h e = ltb-false 4294967295 (t + r) (row_told r h e).0

  row_room : (r : ℕ) → 0 < tails → get_or ns j 0 ≡ r → Room out at (shortest (t + r))
  row_room r h e = room_now _ _ (row_bytes r h e)

  pub writing_row : (r : ℕ) (later : List ℕ) (next : ℕ) → 0 < tails → get_or ns j 0 ≡ r
      → (next ≡ next_at out at (shortest (t + r))) × (later ≡ placed out at (shortest (t + r))) → Writing s xs ns out₀ start later next i (j + 1) (tails - 1) (t + r)
  writing_row r later next h e q =
      let p = stored_at (row_room r h e) q in
      record {
        checked = w.checked;
        total = w.total;
        most = w.most;
        room = omega (arith, w.room);
        within = omega (arith, w.within);
        low = row_low r h e;
        same = stored_length p ∙ w.same;
        spare = spare_now _ _ (row_bytes r h e) p;
        left = λ k. left_now _ _ (row_bytes r h e) p k;
        told = (row_told r h e).1;
      }

  -- an item
  none : tails ≤ 0 → tails ≡ 0
  none z = omega arith

  item_bytes_lem : (x : LogItem) → tails ≤ 0 → i < length xs → get_or xs i blank_item ≡ x
      → rest_bytes s xs ns i j tails t ≡ head_bytes s x ++ rest_bytes s xs ns (i + 1) j (entries_of x.content).count t
  item_bytes_lem x z h e = ap (λ (n : ℕ). rest_bytes s xs ns i j n t) (none z) ∙ (rw e at (bytes_item s xs ns i j t h))

  item_told : (x : LogItem) → tails ≤ 0 → i < length xs → get_or xs i blank_item ≡ x
      → (content_refusal s w.checked j (length ns) x.content ≡ fine)
      × (rest_verdict s xs ns w.checked (i + 1) j (entries_of x.content).count t ≡ Ok w.total)
  item_told x z h e =
      unless_fine _ i _ w.total
      (sym (rw e at (told_item s xs ns w.checked i j t w.low h (omega (arith, w.room)))) ∙ sym (ap (λ (n : ℕ). rest_verdict s xs ns w.checked i j n t) (none z))
      ∙ w.told)

  item_room : (x : LogItem) → tails ≤ 0 → i < length xs → get_or xs i blank_item ≡ x → Room out at (head_bytes s x)
  item_room x z h e = room_now _ _ (item_bytes_lem x z h e)

  item_inside : (x : LogItem) → tails ≤ 0 → i < length xs → get_or xs i blank_item ≡ x → content_inside s x.content ≡ true
  item_inside x z h e = content_inside_lem s w.checked j (length ns) x.content (item_told x z h e).0

  pub item_rows : (x : LogItem) → tails ≤ 0 → i < length xs → get_or xs i blank_item ≡ x → j + (entries_of x.content).count ≤ length ns
  item_rows x z h e = (content_allowed s w.checked j (length ns) x.content (item_told x z h e).0).lent (omega (arith, w.room))

  pub item_few : (x : LogItem) → tails ≤ 0 → i < length xs → get_or xs i blank_item ≡ x → j + (entries_of x.content).count ≤ 1024
  item_few x z h e = (content_allowed s w.checked j (length ns) x.content (item_told x z h e).0).few (omega (arith, w.within))

  pub writing_item : (x : LogItem) (later : List ℕ) (next b : ℕ) → tails ≤ 0 → i < length xs → get_or xs i blank_item ≡ x → b ≡ (entries_of x.content).count
      → (next ≡ head_next s x (length out) at) × (later ≡ head_placed s x out at) → Writing s xs ns out₀ start later next (i + 1) j b t
  writing_item x later next b z h e f q =
      let p = head_stored s x (item_inside x z h e) (item_room x z h e) q in
      rw f
      (record {
        checked = w.checked;
        total = w.total;
        most = omega arith;
        room = item_rows x z h e;
        within = item_few x z h e;
        low = w.low;
        same = stored_length p ∙ w.same;
        spare = spare_now _ _ (item_bytes_lem x z h e) p;
        left = λ k. left_now _ _ (item_bytes_lem x z h e) p k;
        told = (item_told x z h e).1;
      })

  -- the same at places and sums that are equal to these
  pub writing_entry : (r u : ℕ) (later : List ℕ) (after : ℕ) {next left : ℕ} → 0 < tails → get_or ns j 0 ≡ r → u ≡ t + r
      → (after ≡ next_at out at (shortest u)) × (later ≡ placed out at (shortest u)) → next ≡ j + 1 → left ≡ tails - 1
      → Writing s xs ns out₀ start later after i next left u
  writing_entry r u later after h e q p a b = rw (a, b, q) (writing_row r later after h e (rw q at p))

  pub writing_same : {next left : ℕ} → next ≡ j → left ≡ tails → Writing s xs ns out₀ start out at i next left t
  writing_same a b = rw (a, b) w

  -- the end
  pub writing_end : tails ≤ 0 → length xs ≤ i → Stored out₀ start (list_bytes s xs ns) at out × (at + 4 ≤ length out)
  writing_end z h =
      let y = ap (λ (n : ℕ). rest_bytes s xs ns i j n t) (none z) ∙ bytes_end s xs ns i j t h in
      (w.left (stored_same y (stored_none out at)), omega (arith, w.spare, ap length y))
