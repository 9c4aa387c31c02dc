-- What the contracts of private functions cite: this file serves them alone, and no public contract.
-- Assumes nothing.
use Rattle.std.specs.Prelude.{ℕ, ◌+◌, ◌≤◌, min, ◌≡◌, not, Result, Ok, Err, List, length}
use Rattle.refusal.specs.First.{◌else◌, ◌>>◌}
use Rattle.refusal.specs.declared.Reason.{Reason}
use Rattle.std.proofs.lemmas.List.Edits.{sets}
use Rattle.codec.specs.Shortest.{shortest}
use Rattle.log_item.specs.declared.Span.{Span}
use Rattle.log_item.specs.declared.Op.{Op}
use Rattle.log_item.specs.declared.Op.TheVariants.{Put, Del}
use Rattle.log_item.specs.declared.LogItemContent.{LogItemContent}
use Rattle.log_item.specs.declared.LogItemContent.TheVariants as contents
use Rattle.log_item.specs.declared.LogItem.{LogItem}
use Rattle.log_item.specs.Bytes.{entries_bytes, command_bytes, tails_bytes}
use Rattle.log_item.specs.Written.{sum_of, tail_above}
use Rattle.refusal.specs.declared.Reason.TheVariants.{TailTooLarge}

-- bytes fit from a place on
pub record Room (out : List ℕ) (at : ℕ) (bs : List ℕ) : Type 0 where
  pub fits : at + length bs ≤ length out

-- bytes are stored from a place on, and `next` is the place after them
pub record Stored (out : List ℕ) (at : ℕ) (bs : List ℕ) (next : ℕ) (later : List ℕ) : Type 0 where
  pub after : next ≡ at + length bs
  pub stored : later ≡ sets out at bs

-- a number, where all above the largest of 64 bits count as that one
abbrev pub fitted : ℕ → ℕ
fitted n = min n 18446744073709551615

-- lengths where the spans lie in the store
abbrev pub span_length : Span → ℕ
span_length k = length (shortest k.len) + k.len

unfoldable pub op_length : Span → Op → ℕ
op_length key (Put v) = 1 + span_length key + span_length v
op_length key Del = 1 + span_length key

unfoldable pub item_content_length : LogItemContent → ℕ
item_content_length (contents.EntryIndexes e) = length (entries_bytes e.count e.first_index)
item_content_length (contents.Command c) = length (command_bytes c)
item_content_length (contents.Kv k) = op_length k.key k.op

unfoldable pub head_length : LogItem → ℕ
head_length x = length (shortest x.raft_group_id) + (1 + item_content_length x.content)

-- the length of tails behind what has the length n, and the total after them; 16 where one is too large
unfoldable pub tails_size : ℕ → List ℕ → ℕ → Result (ℕ × ℕ) Reason
tails_size n lengths t = do
  not (tail_above lengths t) else Err TailTooLarge
  Ok (fitted (n + length (tails_bytes lengths t)), sum_of t lengths)
