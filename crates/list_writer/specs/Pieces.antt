-- The place that the writers of a body's pieces answer, and what they leave in the buffer. Where a piece is not written, both are as they were.
-- Assumes nothing.
use Rattle.std.specs.Prelude.{ℕ, ◌+◌, ◌-◌, cond, List, leb, length, take, drop}
use Rattle.refusal.specs.First.{Checked, if_fine}
use Rattle.refusal.specs.declared.Reason.{Reason}
use Rattle.words.specs.Write.{next_at, placed}
use Rattle.log_item.specs.declared.LogItem.{LogItem}
use Rattle.log_item.specs.Bytes.{head_bytes}
use Rattle.log_item.specs.Refusing.{content_inside}
use Rattle.log_item.specs.Written.{piece_refusal, placed_unless}
use Rattle.list_writer.specs.Bytes.{footer_bytes}

-- an item up to its tails: 13, then 21
abbrev pub head_refusal : List ℕ → LogItem → ℕ → ℕ → Checked Reason
head_refusal s x all at = piece_refusal (content_inside s x.content) at (length (head_bytes s x)) all

-- the place after it, or the place itself where it is refused
unfoldable pub head_next : List ℕ → LogItem → ℕ → ℕ → ℕ
head_next s x all at = if_fine (head_refusal s x all at) (at + length (head_bytes s x)) at

unfoldable pub head_placed : List ℕ → LogItem → List ℕ → ℕ → List ℕ
head_placed s x out at = placed_unless (head_refusal s x (length out) at) out at (head_bytes s x)

-- the footer of what stands from `start` up to `at`
abbrev pub footer_of : ℕ → ℕ → ℕ → List ℕ → List ℕ
footer_of signature start at out = footer_bytes signature (take (at - start) (drop start out))

-- it is written behind that, unless `start` lies behind `at`
unfoldable pub footer_next : ℕ → ℕ → ℕ → List ℕ → ℕ
footer_next signature start at out = cond (leb start at) (next_at out at (footer_of signature start at out)) at

unfoldable pub footer_placed : ℕ → ℕ → ℕ → List ℕ → List ℕ
footer_placed signature start at out = cond (leb start at) (placed out at (footer_of signature start at out)) out
