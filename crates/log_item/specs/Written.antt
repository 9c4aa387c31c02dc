-- What the writers of items answer, and what they leave in the buffer.
-- Assumes nothing.
use Rattle.std.specs.Prelude.{ℕ, ◌+◌, min, ◌≡◌, Bool, false, not, Result, Ok, Err, List, [], ◌∷◌, ◌++◌, ltb, leb, length, take}
use Rattle.refusal.specs.First.{◌else◌, ◌>>◌, Checked, fine, ◌>>=◌, if_fine}
use Rattle.refusal.specs.declared.Reason.{Reason}
use Rattle.refusal.specs.declared.Reason.TheVariants.{OutputShort, SpanOutside, TailTooLarge}
use Rattle.words.specs.Write.{placed}
use Rattle.log_item.specs.Entries.{entries_of}
use Rattle.log_item.specs.declared.LogItem.{LogItem}
use Rattle.log_item.specs.Bytes.{head_bytes, tails_bytes}
use Rattle.log_item.specs.Refusing.{content_refusal}
use Rattle.log_item.specs.declared.HeadSize.{HeadSize}
use Rattle.log_item.specs.declared.ItemWrote.{ItemWrote}

-- a length, where all above 4,294,967,295 count as one more than that
abbrev pub capped : ℕ → ℕ
capped n = min n 4294967296

-- the first refusal of an item but 16, or its length up to its tails and how many rows it uses
unfoldable pub measure_item : List ℕ → Bool → ℕ → ℕ → LogItem → Result HeadSize Reason
measure_item s checked used rows x = do
  u ← content_refusal s checked used rows x.content
  Ok (record { len = capped (length (head_bytes s x)); count = (entries_of x.content).count })

-- of a piece of an item, whose spans lie in the store or not: 13, then 21 where its n bytes do not fit from the place `at` on among `all`
unfoldable pub piece_refusal : Bool → ℕ → ℕ → ℕ → Checked Reason
piece_refusal lies at n all = do
  lies else Err SpanOutside
  leb (at + n) all else Err OutputShort
  fine

-- the place after the piece, or the refusal
abbrev pub part_wrote : Checked Reason → ℕ → Result ℕ Reason
part_wrote refusal next = do
  u ← refusal
  Ok next

-- the buffer with the bytes at the place; nothing is written where there is a refusal
abbrev pub placed_unless : Checked Reason → List ℕ → ℕ → List ℕ → List ℕ
placed_unless refusal out at bs = if_fine refusal (placed out at bs) out

-- the answer r to the writing of a piece's bytes at the place `at`, and the later contents of out
pub record PieceWritten (lies : Bool) (bytes out : List ℕ) (at : ℕ) (r : Result ℕ Reason) (later : List ℕ) : Type 0 where
  pub answer : r ≡ part_wrote (piece_refusal lies at (length bytes) (length out)) (at + length bytes)
  pub written : later ≡ placed_unless (piece_refusal lies at (length bytes) (length out)) out at bytes

-- the sum of lengths behind a total
unfoldable pub sum_of : ℕ → List ℕ → ℕ
sum_of t [] = t
sum_of t (n ∷ lengths) = sum_of (t + n) lengths

-- the lengths of an item's rows: the first of those lent
abbrev pub row_lengths : LogItem → List ℕ → List ℕ
row_lengths x lengths = take (entries_of x.content).count lengths

-- the item and its tails
unfoldable pub item_bytes : List ℕ → LogItem → List ℕ → ℕ → List ℕ
item_bytes s x lengths t = head_bytes s x ++ tails_bytes (row_lengths x lengths) t

-- A tail is above 4,294,967,295. No tail is below the one before it, so that is where the last one is, which is the total behind the lengths. With no
-- lengths it is the total before them, which no caller has above that.
abbrev pub tail_above : List ℕ → ℕ → Bool
tail_above lengths t = ltb 4294967295 (sum_of t lengths)

-- 16 where a tail of the item is
abbrev pub tail_refusal : LogItem → List ℕ → ℕ → Checked Reason
tail_refusal x lengths t = do
  not (tail_above (row_lengths x lengths) t) else Err TailTooLarge
  fine

-- entries 14, 13, 17, 16; a key 13; then 21
unfoldable pub item_refusal : List ℕ → LogItem → List ℕ → ℕ → List ℕ → ℕ → Checked Reason
item_refusal s x lengths t out at = do
  u ← content_refusal s false 0 (length lengths) x.content
  v ← tail_refusal x lengths t
  leb (at + length (item_bytes s x lengths t)) (length out) else Err OutputShort
  fine

-- the place after the item and the total after it, or the refusal
abbrev pub item_wrote : Checked Reason → ℕ → ℕ → Result ItemWrote Reason
item_wrote refusal next total = do
  u ← refusal
  Ok (record { next = next; total = total })

-- the same of an item with its tails
pub record ItemWritten (s : List ℕ) (x : LogItem) (lengths : List ℕ) (t : ℕ) (out : List ℕ) (at : ℕ) (r : Result ItemWrote Reason) (later : List ℕ) : Type 0 where
  pub answer : r ≡ item_wrote (item_refusal s x lengths t out at) (at + length (item_bytes s x lengths t)) (sum_of t (row_lengths x lengths))
  pub written : later ≡ placed_unless (item_refusal s x lengths t out at) out at (item_bytes s x lengths t)
