-- What reading a body into a table answers, and what writing it again from that table answers and leaves in the buffer.
-- Assumes nothing.
use Rattle.std.specs.Prelude.{ℕ, ◌≡◌, false, List, [], ◌∷◌, Option, Some, None, Result, Ok, Err}
use Rattle.refusal.specs.declared.Refusal.{Refusal}
use Rattle.list_writer.specs.Bytes.{body_bytes}
use Rattle.list_writer.specs.Answers.{measure_of, encoded_of, laid}
use Rattle.log_batch.specs.declared.LogItemBatch.{LogItemBatch}
use Rattle.log_batch.specs.Writing.{listed, table_lengths}
use Rattle.item_row.specs.Reply.{Reply, reply}

-- the refusal's number, or 0
abbrev pub refusal_number : Option Refusal → ℕ
refusal_number (Some r) = r.number
refusal_number None = 0

-- with items, entries, entry total, place after the last item
abbrev pub table_reply : LogItemBatch → Reply
table_reply t = reply (refusal_number t.refusal) (t.item_count ∷ t.entry_count ∷ t.total ∷ t.next ∷ [])

-- the refusal where there is one, else the answer
abbrev pub unless_refused : Option Refusal → Result ℕ Refusal → Result ℕ Refusal
unless_refused (Some r) e = Err r
unless_refused None e = e

-- what writing the table answers, with the body as the store; where the reading is refused, its refusal
abbrev pub again : LogItemBatch → List ℕ → List ℕ → Result ℕ Refusal
again t body out = unless_refused t.refusal (encoded_of (measure_of body false (listed t) (table_lengths t)) out 0)

-- the length
abbrev pub length_reply : Result ℕ Refusal → Reply
length_reply (Ok len) = reply 0 (len ∷ [])
length_reply (Err r) = reply r.number (0 ∷ [])

-- the answer r and the later contents of out for the table t of a body: the body's bytes, then what stood there; out as it was where it is refused
pub record TableAgain (t : LogItemBatch) (body : List ℕ) (signature : ℕ) (out : List ℕ) (r : Result ℕ Refusal) (later : List ℕ) : Type 0 where
  pub answer : r ≡ again t body out
  pub written : later ≡ laid r out 0 (body_bytes body (listed t) (table_lengths t) signature)

-- the same of the reply r
pub record WrittenAgain (t : LogItemBatch) (body : List ℕ) (signature : ℕ) (out : List ℕ) (r : Reply) (later : List ℕ) : Type 0 where
  pub answer : r ≡ length_reply (again t body out)
  pub written : later ≡ laid (again t body out) out 0 (body_bytes body (listed t) (table_lengths t) signature)
