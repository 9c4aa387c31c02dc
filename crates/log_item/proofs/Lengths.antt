-- The lengths of what is written, where the spans lie in the store.
-- Assumes nothing.
use Prim.Native.Nat.{ℕ, zero, suc, ◌+◌, ◌-◌, ◌≤◌, ◌<◌, ◌^◌}
use mathlib.Core.Path.{◌≡◌, refl, sym, ap, ◌∙◌}
use mathlib.Core.Bool.{true, and-eq-true_iff}
use mathlib.Core.List.{List, ◌∷◌, ◌++◌}
use native.Mathlib.Omega.{arith}
use borrow.Author.Tests.{leb-true}
use lib.ListN.{length, take, drop, length-append, length-take, length-drop}
use Rattle.codec.specs.Shortest.{shortest, spell}
use Rattle.log_item.specs.Prefix.{bytes_of, inside}
use Rattle.log_item.specs.Entries.{type_of}
use Rattle.log_item.specs.declared.Span.{Span}
use Rattle.log_item.specs.declared.Op.{Op}
use Rattle.log_item.specs.declared.Op.TheVariants.{Put, Del}
use Rattle.log_item.specs.declared.LogItemContent.{LogItemContent}
use Rattle.log_item.specs.declared.LogItemContent.TheVariants as contents
use Rattle.log_item.specs.declared.LogItem.{LogItem}
use Rattle.log_item.specs.Bytes.{span_bytes, op_bytes, entries_bytes, content_bytes, head_bytes}
use Rattle.log_item.specs.Refusing.{op_inside, content_inside}
use Rattle.log_item.specs.Written.{piece_refusal}
use Rattle.log_item.proofs.Stores.{refusal_told, room_first}
use Rattle.log_item.specs.Private.{Room, fitted, span_length, op_length, item_content_length, head_length}

module _ (s : List ℕ) where
  pub inside_bound : (k : Span) → inside s k ≡ true → k.at + k.len ≤ length s
  inside_bound k h = leb-true (k.at + k.len) (length s) h

  pub part_length : (k : Span) → inside s k ≡ true → length (bytes_of s k) ≡ k.len
  part_length k h = length-take k.len (drop k.at s) ∙ omega (arith, length-drop k.at s, inside_bound k h)

  pub span_length_lem : (k : Span) → inside s k ≡ true → length (span_bytes s k) ≡ span_length k
  unfolding span_bytes
  span_length_lem k h = length-append (shortest k.len) (bytes_of s k) ∙ ap (λ (n : ℕ). length (shortest k.len) + n) (part_length k h)

  pub op_length_lem : (key : Span) (op : Op) → op_inside s key op ≡ true → length (op_bytes s key op) ≡ op_length key op
  unfolding op_bytes op_length
  op_length_lem key (Put v) h =
      let i : (inside s key ≡ true) × (inside s v ≡ true) = (and-eq-true_iff _ _).0 h in
      omega (arith, length-append (span_bytes s key) (span_bytes s v), span_length_lem key i.0, span_length_lem v i.1)
  op_length_lem key Del h = omega (arith, span_length_lem key h)

  content_length : (k : LogItemContent) → content_inside s k ≡ true → length (content_bytes s k) ≡ item_content_length k
  unfolding content_bytes item_content_length
  content_length (contents.EntryIndexes e) h = refl
  content_length (contents.Command c) h = refl
  content_length (contents.Kv k) h = op_length_lem k.key k.op h

  pub head_length_lem : (x : LogItem) → content_inside s x.content ≡ true → length (head_bytes s x) ≡ head_length x
  unfolding head_bytes head_length
  head_length_lem x h =
      omega (arith, length-append (shortest x.raft_group_id) (type_of x.content ∷ content_bytes s x.content), content_length x.content h)

  -- What is refused by the length that the code works out is refused by the length of the bytes: no buffer is longer than the largest number.
  module _ (at all : ℕ) (small : all < 2 ^ 64 - 1) where
    pub op_told : (key : Span) (op : Op) → piece_refusal (op_inside s key op) at (length (op_bytes s key op)) all ≡ piece_refusal (op_inside s key op) at (fitted (op_length key op)) all
    op_told key op = sym (refusal_told (op_inside s key op) at _ _ all (op_length_lem key op) small)

    pub head_told : (x : LogItem) → piece_refusal (content_inside s x.content) at (length (head_bytes s x)) all ≡ piece_refusal (content_inside s x.content) at (fitted (head_length x)) all
    head_told x = sym (refusal_told (content_inside s x.content) at _ _ all (head_length_lem x) small)

pub bytes_told : (bs : List ℕ) (at all : ℕ) → all < 2 ^ 64 - 1 → piece_refusal true at (length bs) all ≡ piece_refusal true at (fitted (length bs)) all
bytes_told bs at all small = sym (refusal_told true at _ _ all (λ e. refl) small)

-- A count of entries, and their first index where there are any.
pub entries_none : (n i : ℕ) → n ≡ 0 → entries_bytes n i ≡ shortest n
unfolding entries_bytes
entries_none n i e = rw e

pub entries_some : (n i : ℕ) → (n ≡ 0 → ⊥) → entries_bytes n i ≡ shortest n ++ shortest i
unfolding entries_bytes
entries_some zero i h = absurd (h refl)
entries_some (suc n) i h = refl

pub entries_room : (n i : ℕ) {out : List ℕ} {at : ℕ} → Room out at (entries_bytes n i) → Room out at (shortest n)
unfolding entries_bytes
entries_room zero i h = h
entries_room (suc n) i h = room_first (shortest (suc n)) (shortest i) h

pub none_length : (n i : ℕ) → n ≡ 0 → length (entries_bytes n i) ≡ 1
unfolding entries_bytes shortest spell
none_length n i e = rw e

pub some_length : (n i : ℕ) → (n ≡ 0 → ⊥) → length (entries_bytes n i) ≡ length (shortest n) + length (shortest i)
some_length n i h = rw (entries_some n i h) (length-append (shortest n) (shortest i))

-- The part of the store that a span names, by its start and its end.
pub part_named : (s : List ℕ) (k : Span) → take (k.at + k.len - k.at) (drop k.at s) ≡ bytes_of s k
part_named s k = let e : k.at + k.len - k.at ≡ k.len = omega arith in rw e
