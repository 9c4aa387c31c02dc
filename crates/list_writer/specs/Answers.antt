-- What the measure of a body and its writer answer, and what the writer leaves in the buffer.
-- Assumes nothing.
use Rattle.std.specs.Prelude.{not, ℕ, ◌+◌, Bool, cond, List, ◌≡◌, Result, Ok, Err, leb, eqb, length}
use Rattle.log_item.specs.declared.LogItem.{LogItem}
use Rattle.list_writer.specs.declared.Measured.{Measured}
use Rattle.list_writer.specs.Bytes.{list_bytes}
use Rattle.list_writer.specs.Refusing.{refused, list_verdict}
use Rattle.refusal.specs.First.{◌else◌, ◌>>◌, ◌>>=◌}
use Rattle.refusal.specs.declared.Reason.TheVariants.{OutputShort, OutputTooLong}
use Rattle.refusal.specs.declared.Refusal.{Refusal}
use Rattle.words.specs.Write.{placed}

abbrev pub measured : ℕ → ℕ → Measured
measured len total = record { length = len; total = total }

-- the verdict on a list of n bytes, then 22: the footer has four
unfoldable pub measured_of : Result ℕ Refusal → ℕ → Result Measured Refusal
measured_of verdict n = do
  total ← verdict
  leb (n + 4) 4294967295 else refused OutputTooLong 0
  Ok (measured (n + 4) total)

-- the first refusal but 21, or the body's length and the entry total
unfoldable pub measure_of : List ℕ → Bool → List LogItem → List ℕ → Result Measured Refusal
measure_of s checked xs lengths = measured_of (list_verdict s checked xs lengths) (length (list_bytes s xs lengths))

-- the measure's refusal; a body of no bytes, which no measure gives, is not written; then 21: the body does not fit from the place `at` on
-- among `all` bytes; or how many bytes were written
abbrev pub encoded_in : Result Measured Refusal → ℕ → ℕ → Result ℕ Refusal
encoded_in r all at = do
  m ← r
  not (eqb m.length 0) else Ok 0
  leb (at + m.length) all else refused OutputShort 0
  Ok m.length

-- the same of a buffer
unfoldable pub encoded_of : Result Measured Refusal → List ℕ → ℕ → Result ℕ Refusal
encoded_of m out at = encoded_in m (length out) at

-- the bytes at the place, all else as it was; nothing is touched where the body is refused, or where no bytes are written
unfoldable pub laid : Result ℕ Refusal → List ℕ → ℕ → List ℕ → List ℕ
laid (Ok n) out at bs = cond (eqb n 0) out (placed out at bs)
laid (Err r) out at bs = out

-- the answer r to the writing of a measured body's bytes at the place `at`, and the later contents of out
pub record MeasuredWritten (m : Result Measured Refusal) (bytes out : List ℕ) (at : ℕ) (r : Result ℕ Refusal) (later : List ℕ) : Type 0 where
  pub answer : r ≡ encoded_of m out at
  pub written : later ≡ laid r out at bytes
