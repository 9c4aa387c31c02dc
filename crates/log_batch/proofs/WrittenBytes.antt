-- What is written from a store of bytes is bytes.
-- Assumes nothing.
use Rattle.std.proofs.Common.{ℕ, zero, suc, ◌+◌, ◌*◌, ◌/◌, ◌%◌, ◌^◌, ◌<◌, ◌≤◌, List, [], ◌∷◌, drop, arith, lit<}
use Rattle.codec.specs.Shortest.{spell, shortest}
use Rattle.codec.proofs.Shortest.{spell_one, spell_more, Size, small, large, size, fewer}
use Rattle.words.specs.Byte.{Bytes}
use Rattle.words.proofs.Bytes.{bytes_take, bytes_drop}
use Rattle.log_item.specs.Entries.{type_of}
use Rattle.log_item.specs.declared.Span.{Span}
use Rattle.log_item.specs.declared.Command.TheVariants.{Clean, Compact}
use Rattle.log_item.specs.declared.Op.{Op}
use Rattle.log_item.specs.declared.Op.TheVariants.{Put, Del}
use Rattle.log_item.specs.declared.LogItemContent.{LogItemContent}
use Rattle.log_item.specs.declared.LogItemContent.TheVariants as contents
use Rattle.log_item.specs.declared.LogItem.{LogItem}
use Rattle.log_item.specs.Bytes.{span_bytes, command_bytes, op_bytes, entries_bytes, content_bytes, head_bytes, tails_bytes}
use Rattle.log_item.specs.Written.{sum_of, row_lengths, item_bytes}
use Rattle.log_item.specs.Each.{Each, none, one}
use Rattle.log_item.specs.Relocated.{numbers_of, Small}
use Rattle.log_item.proofs.Tails.{sum_rises}
use Rattle.log_item.proofs.Every.{each_append}

-- each is below 256
abbrev pub AllBytes : List ℕ → Type 0
AllBytes x = Each (λ (b : ℕ). b < 256) x

all_bytes : (x : List ℕ) → Bytes x → AllBytes x
all_bytes [] f = none
all_bytes (b ∷ x) f = one (f 0) (all_bytes x (λ i. f (suc i)))

pub bytes_all : {x : List ℕ} → AllBytes x → Bytes x
bytes_all none i = lit< tt
bytes_all (one h f) zero = h
bytes_all (one h f) (suc i) = bytes_all f i

spell_bytes : (room n : ℕ) → n < 2 ^ (1 + 7 * room) → AllBytes (spell room n)
spell_bytes zero n h = let t : n < 128 = omega arith in rw (spell_one zero n t) (one {x = n} (omega arith) none)
spell_bytes (suc room) n h = go (spell_bytes room (n / 128) (fewer room n h)) (size n)
  where
    go : AllBytes (spell room (n / 128)) → Size n → AllBytes (spell (suc room) n)
    go f (small t) = rw (spell_one (suc room) n t) (one {x = n} (omega arith) none)
    go f (large t) = rw (spell_more room n t) (one {x = 128 + n % 128} (omega arith) f)

-- A number of 64 bits is written in bytes.
pub shortest_bytes : (n : ℕ) → n < 2 ^ 64 → AllBytes (shortest n)
unfolding shortest
shortest_bytes n h = spell_bytes 9 n h

tails_bytes_lem : (t : ℕ) (lengths : List ℕ) → sum_of t lengths ≤ 4294967295 → AllBytes (tails_bytes lengths t)
unfolding sum_of tails_bytes
tails_bytes_lem t [] h = none
tails_bytes_lem t (n ∷ lengths) h =
    each_append (shortest_bytes (t + n) (omega (arith, sum_rises (t + n) lengths))) (tails_bytes_lem (t + n) lengths h)

module _ (s : List ℕ) (bytes : Bytes s) where
  span_bytes_lem : (k : Span) → k.len < 2 ^ 64 → AllBytes (span_bytes s k)
  unfolding span_bytes
  span_bytes_lem k h = each_append (shortest_bytes k.len h) (all_bytes _ (bytes_take k.len (drop k.at s) (bytes_drop k.at s bytes)))

  content_bytes_lem : (k : LogItemContent) → Small (numbers_of k) → AllBytes (content_bytes s k)
  unfolding content_bytes numbers_of command_bytes entries_bytes op_bytes
  content_bytes_lem (contents.EntryIndexes e) (one n (one i z)) = go e.count n
    where
      go : (m : ℕ) → m < 2 ^ 64 → AllBytes (entries_bytes m e.first_index)
      go zero b = shortest_bytes 0 b
      go (suc m) b = each_append (shortest_bytes (suc m) b) (shortest_bytes e.first_index i)
  content_bytes_lem (contents.Command Clean) z = one (lit< tt) none
  content_bytes_lem (contents.Command (Compact i)) (one n z) = one (lit< tt) (shortest_bytes i n)
  content_bytes_lem (contents.Kv k) z = go k.op z
    where
      go : (o : Op) → Small (numbers_of (contents.Kv (record { key = k.key; op = o }))) → AllBytes (op_bytes s k.key o)
      go (Put v) (one a (one b c)) = one (lit< tt) (each_append (span_bytes_lem k.key a) (span_bytes_lem v b))
      go Del (one a c) = one (lit< tt) (span_bytes_lem k.key a)

  type_byte : (k : LogItemContent) → type_of k < 256
  type_byte (contents.EntryIndexes e) = lit< tt
  type_byte (contents.Command c) = lit< tt
  type_byte (contents.Kv k) = lit< tt

  -- An item is written in bytes.
  pub item_bytes_lem : (x : LogItem) (lengths : List ℕ) (t : ℕ) → Small (x.raft_group_id ∷ numbers_of x.content) → sum_of t (row_lengths x lengths) ≤ 4294967295
      → AllBytes (item_bytes s x lengths t)
  unfolding item_bytes head_bytes
  item_bytes_lem x lengths t (one g z) h =
      each_append
      (each_append (shortest_bytes x.raft_group_id g) (one (type_byte x.content) (content_bytes_lem x.content z)))
      (tails_bytes_lem t (row_lengths x lengths) h)
