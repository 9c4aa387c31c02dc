-- Counting while stepping: the rows of an item, and the items of a body with all their rows.
-- Assumes nothing.
use Prim.Native.Nat.{ℕ, ◌+◌, ◌≤◌}
use mathlib.Core.Path.{◌≡◌, refl, sym, ap, ◌∙◌}
use mathlib.Core.List.{List, [], ◌∷◌}
use native.Mathlib.Omega.{arith}
use lib.ListN.{length, length-append}
use denote.Ref.{Bor}
use Rattle.std.specs.Prelude.{Some, None, Ok, Err}
use Rattle.refusal.specs.Number.{refusal_of}
use Rattle.refusal.specs.declared.Reason.{Reason}
use Rattle.refusal.specs.declared.Refusal.{Refusal}
use Rattle.log_item.specs.declared.LogItem.{LogItem}
use Rattle.log_item.specs.declared.EntryIndex.{EntryIndex}
use Rattle.log_batch.specs.Seal.{sealed_part}
use Rattle.log_batch.specs.Reading.{Answer, accepted, rejected}
use Rattle.log_batch.specs.Body.{read_body}
use Rattle.log_batch.specs.Answers.{check_of}
use Rattle.log_batch.proofs.Bodies.{sound_body}
use Rattle.item_row.specs.Reply.{reply}
use Rattle.item_reader.specs.declared.Cursor.{Cursor}
use Rattle.item_reader.specs.declared.EntryRows.{EntryRows}
use Rattle.item_reader.specs.declared.Found.{Found}
use Rattle.item_reader.specs.declared.NextRow.{NextRow}
use Rattle.item_reader.specs.declared.Stepped.{Stepped}
use Rattle.item_reader.specs.Rows.{next_row}
use Rattle.item_reader.specs.Steps.{stepped}
use Rattle.item_reader.specs.Cursor.{started}
use Rattle.item_reader.specs.Reader.{reader_at, after_calls}
use Rattle.item_reader.specs.Stepping.{GoesThrough, StepsThrough}
use Rattle.item_reader.specs.Stepping as go
use Rattle.item_reader.proofs.Theorems.{same_items, same_refusal}
use Rattle.item_reader.proofs.Ends.{row_passed}
use Rattle.speed.specs.Replies.{steps_reply}

-- ---- rows

module _ (s : List ℕ) (first : EntryRows) where
  -- n rows are read, and the rest is still to be read
  pub record Counted (rest : EntryRows) (n : ℕ) : Type 0 where
    pub fits : n + rest.left ≤ first.left
    pub more : (xs : List EntryIndex) → GoesThrough s first xs → (ys : List EntryIndex) × GoesThrough s rest ys × (n + length ys ≡ length xs)

  pub none_counted : Counted first 0
  none_counted = record { fits = omega arith; more = λ xs g. (xs, g, omega arith) }

  module _ {r : EntryRows} {n : ℕ} (c : Counted r n) where
    goes_on : {a : NextRow} {ys : List EntryIndex} → next_row s r ≡ Ok (Some a) → GoesThrough s r ys
        → (zs : List EntryIndex) × GoesThrough s a.rest zs × (length ys ≡ length zs + 1)
    goes_on e (go.GoesThrough.end f) = absurd (cc)
    goes_on {a} e (go.GoesThrough.then {rest = after} {x = x} {rows = zs} f g) =
        let k : a ≡ record { row = x; rest = after } = cc in
        (zs, rw k g, omega arith)

    pub one_more : {a : NextRow} → next_row s r ≡ Ok (Some a) → Counted a.rest (n + 1)
    one_more e = record {
      fits = omega (arith, row_passed s r e, c.fits);
      more = λ xs g. let a = c.more xs g in let b = goes_on e a.1 in (b.0, b.1, omega (arith, a.2, b.2));
    }

    pub room : {a : NextRow} → next_row s r ≡ Ok (Some a) → n + 1 ≤ first.left
    room e = omega (arith, row_passed s r e, c.fits)

    -- No row comes next.
    pub all_counted : ((a : NextRow) → next_row s r ≡ Ok (Some a) → ⊥) → (xs : List EntryIndex) → GoesThrough s first xs → n ≡ length xs
    all_counted none xs g = let a = c.more xs g in omega (arith, a.2, none_left a.1)
      where
        none_left : {ys : List EntryIndex} → GoesThrough s r ys → length ys ≡ 0
        none_left (go.GoesThrough.end f) = refl
        none_left (go.GoesThrough.then f g) = absurd (none _ f)

-- ---- items

-- a reference to these bytes, since a reader holds one
abbrev lent : List ℕ → Bor (List ℕ)
lent body = record { ref_ptr = (0, 0); now = body }

-- so many items and entries are counted of those that the reading answers, and the cursor hands out the others; or each step is refused
pub data Along (body : List ℕ) (c : Cursor) (i n : ℕ) : Answer → Type 0 where
  on : {xs ys : List LogItem} {rows more : List EntryIndex} {u q : ℕ} → length xs ≤ 256 → length rows ≤ 1024
      → StepsThrough (reader_at (lent body) c) ys more → i + length ys ≡ length xs → n + length more ≡ length rows → Along body c i n (accepted xs rows u q)
  out : {r : Reason} {j : ℕ} → (stepped body c).answer ≡ Err (refusal_of r j) → i ≡ 0 → n ≡ 0 → Along body c i n (rejected r j)

module _ (body : List ℕ) (signature : ℕ) where
  refused_first : {r : Reason} {j : ℕ} → read_body body signature ≡ rejected r j
      → (stepped body (started body signature)).answer ≡ Err (refusal_of r j)
  unfolding after_calls
  refused_first e = same_refusal (lent body) signature e 0

  pub at_start : Along body (started body signature) 0 0 (read_body body signature)
  at_start = by (read_body body signature) refl
    where
      by : (a : Answer) → read_body body signature ≡ a → Along body (started body signature) 0 0 a
      by (accepted xs rows u q) e =
          let w = (sound_body body signature e).1.begins.within in
          on {xs = xs} {ys = xs} {rows = rows} {more = rows} w.items w.entries (same_items (lent body) signature e) (omega arith) (omega arith)
      by (rejected r j) e = out (refused_first e) refl refl

module _ {body : List ℕ} {c : Cursor} {i n : ℕ} where
  -- An item is one of those that are left, and so are its rows.
  one_item_lem : {a : Answer} {f : Found} {k : ℕ} → Along body c i n a → (stepped body c).answer ≡ Ok (Some f)
      → ((rows : List EntryIndex) → GoesThrough (sealed_part body) f.rows rows → k ≡ length rows) → Along body (stepped body c).cursor (i + 1) (n + k) a
  unfolding after_calls
  one_item_lem (on few less (go.StepsThrough.end h) items entries) e count = let o = h 0 in absurd (cc)
  one_item_lem {f = f} (on {xs = xs} {rows = all} few less (go.StepsThrough.then {x = x} {p = p} {xs = ys} {rows = rows} {more = more} h g s) items entries) e count =
      let same : f ≡ record { item = x; rows = p } = cc in
      let k = count rows (rw same g) in
      on {xs = xs} {ys = ys} {rows = all} {more = more} few less s (omega (arith, items)) (omega (arith, entries, k, length-append rows more))
  one_item_lem (out h none nothing) e count = absurd (cc)

  pub few_counted : {a : Answer} → Along body c i n a → (i ≤ 256) × (n ≤ 1024)
  few_counted (on few less s items entries) = (omega arith, omega arith)
  few_counted (out f none nothing) = (omega arith, omega arith)

  end_is : {a : Answer} → Along body c i n a → (stepped body c).answer ≡ Ok None → reply 0 (i ∷ n ∷ []) ≡ steps_reply (check_of a)
  end_is (on {xs = xs} {rows = rows} few less (go.StepsThrough.end f) items entries) e =
      let all : i ≡ length xs = omega (arith, items) in
      let every : n ≡ length rows = omega (arith, entries) in
      rw (all, every)
  end_is (on few less (go.StepsThrough.then f g s) items entries) e = absurd (cc)
  end_is (out f none nothing) e = absurd (cc)

  refusal_is : {a : Answer} {r : Refusal} → Along body c i n a → (stepped body c).answer ≡ Err r → reply r.number (0 ∷ 0 ∷ []) ≡ steps_reply (check_of a)
  unfolding after_calls
  refusal_is (on few less (go.StepsThrough.end f) items entries) e = let o = f 0 in absurd (cc)
  refusal_is (on few less (go.StepsThrough.then f g s) items entries) e = absurd (cc)
  refusal_is {r = r} (out {r = s} {j = j} f none nothing) e = let same : r ≡ refusal_of s j = cc in rw same

  -- The same of what a call answers.
  module _ {a : Answer} (h : Along body c i n a) {s : Stepped} (e : s ≡ stepped body c) where
    pub item_more : {f : Found} {k : ℕ} → s.answer ≡ Ok (Some f) → ((rows : List EntryIndex) → GoesThrough (sealed_part body) f.rows rows → k ≡ length rows)
        → Along body s.cursor (i + 1) (n + k) a
    item_more f count = rw e (one_item_lem h (ap (λ (t : Stepped). t.answer) (sym e) ∙ f) count)

    pub end_counted : s.answer ≡ Ok None → reply 0 (i ∷ n ∷ []) ≡ steps_reply (check_of a)
    end_counted f = end_is h (ap (λ (t : Stepped). t.answer) (sym e) ∙ f)

    pub refusal_counted : {r : Refusal} → s.answer ≡ Err r → reply r.number (0 ∷ 0 ∷ []) ≡ steps_reply (check_of a)
    refusal_counted f = refusal_is h (ap (λ (t : Stepped). t.answer) (sym e) ∙ f)
