-- What reads a body or a batch refuses for a reason alone, and so does what writes a batch where the measure of its body does.
-- Assumes nothing.
use Rattle.std.proofs.Common.{◌≡◌, ℕ, ◌+◌, not, List, length, Some, Result, nat_le, ◌==◌, sym, ap}
use Rattle.refusal.specs.declared.Reason.TheVariants.{BlockDiffers, OutputShort, OutputTooLong}
use Rattle.refusal.specs.declared.Refusal.{Refusal}
use Rattle.refusal.proofs.Reasons.{OfReason, ForReasons, refused_for, done_for, then_for, test_for}
use Rattle.log_item.specs.declared.Span.{Span}
use Rattle.list_writer.specs.declared.Measured.{Measured}
use Rattle.log_batch.specs.Reading.{Answer, accepted, rejected}
use Rattle.log_batch.specs.Answers.{check_of, plain_of, plain_body}
use Rattle.log_batch.specs.Table.{table_of}
use Rattle.log_batch.specs.Batch.{read_batch}
use Rattle.log_batch.specs.Front.{body_offset, batch_encoded, front_encoded}
use Rattle.log_batch.specs.Written.{BatchWritten}
use Rattle.log_batch.proofs.Checking.{refusal_told}

-- Without a table.
pub check_for : (a : Answer) → ForReasons (check_of a)
check_for a x e = let told = refusal_told a (sym e) in (told.0, ap (λ (y : Refusal). y.number) told.1)

plain_for : (a strict : Answer) → ForReasons (plain_of a strict)
plain_for (accepted xs rows u q) strict = done_for _
plain_for (rejected r i) strict = refused_for r i

pub plain_body_for : (body : List ℕ) (signature : ℕ) → ForReasons (plain_body body signature)
unfolding plain_body
plain_body_for body signature = plain_for _ _

-- A table.
pub table_for : (body block : Span) (a : Answer) (x : Refusal) → (table_of body block a).refusal ≡ Some x → OfReason x
unfolding table_of
table_for body block (accepted xs rows u q) x e = cc
table_for body block (rejected r i) x e = refused_for {A = ℕ} r i x cc

pub batch_for : (s : List ℕ) (signature : ℕ) (x : Refusal) → (read_batch s signature).refusal ≡ Some x → OfReason x
unfolding read_batch
batch_for s signature = table_for _ _ _

-- Writing.
batch_encoded_for : (m : Result Measured Refusal) (items : ℕ) (content : List ℕ) (room : ℕ) → ForReasons m → ForReasons (batch_encoded m items content room)
unfolding batch_encoded
batch_encoded_for m items content room h =
    test_for _ (then_for m h (λ b. test_for (not (b.length == 0)) (test_for (nat_le b.total 2147483647) (test_for (b.total == length content)
    (test_for (nat_le (body_offset content + b.length) room) (done_for _) (refused_for OutputShort 0)) (refused_for BlockDiffers 0)) (refused_for OutputTooLong 0))
    (done_for 0))) (done_for 0)

pub front_for : (m : Result Measured Refusal) (items : ℕ) (content : List ℕ) (room : ℕ) → ForReasons m → ForReasons (front_encoded m items content room)
unfolding front_encoded
front_for m items content room h = test_for _ (batch_encoded_for m items content room h) (refused_for OutputTooLong 0)

pub batch_written_for : (m : Result Measured Refusal) (items : ℕ) (content body out : List ℕ) (r : Result ℕ Refusal) (later : List ℕ)
    → ForReasons m → BatchWritten m items content body out r later → ForReasons r
batch_written_for m items content body out r later h w = rw w.answer (batch_encoded_for m items content _ h)
