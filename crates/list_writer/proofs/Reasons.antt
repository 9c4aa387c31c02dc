-- A body's measure refuses for a reason alone, and so does its writer where it is given such a measure.
-- Assumes nothing.
use Rattle.std.proofs.Common.{ℕ, ◌+◌, Bool, List, [], ◌∷◌, Result, Ok, Err, leb, length}
use Rattle.refusal.specs.declared.Reason.{Reason}
use Rattle.refusal.specs.declared.Reason.TheVariants.{ItemsTooMany, OutputShort, OutputTooLong}
use Rattle.refusal.specs.declared.Refusal.{Refusal}
use Rattle.refusal.proofs.Reasons.{ForReasons, refused_for, done_for, then_for, test_for}
use Rattle.log_item.specs.declared.LogItem.{LogItem}
use Rattle.log_item.specs.Refusing.{content_refusal}
use Rattle.log_item.specs.Written.{tail_refusal}
use Rattle.list_writer.specs.declared.Measured.{Measured}
use Rattle.list_writer.specs.Refusing.{at_item, items_verdict, list_verdict}
use Rattle.list_writer.specs.Rows.{rows_verdict, rows_measure}
use Rattle.list_writer.specs.Answers.{measured_of, measure_of, encoded_in, encoded_of, MeasuredWritten}

item_for : {A : Type 0} (k : ℕ) (v : Result A Reason) → ForReasons (at_item k v)
item_for k (Ok x) = done_for x
item_for k (Err r) = refused_for r k

items_for : (s : List ℕ) (checked : Bool) (xs : List LogItem) (ns : List ℕ) (used k t : ℕ) → ForReasons (items_verdict s checked xs ns used k t)
unfolding items_verdict
items_for s checked [] ns used k t = done_for t
items_for s checked (x ∷ xs) ns used k t =
    then_for (at_item k (content_refusal s checked used (used + length ns) x.content)) (item_for k _)
    (λ u. then_for (at_item k (tail_refusal x ns t)) (item_for k _) (λ v. items_for s checked xs _ _ _ _))

-- What is answered for a list of n bytes, and the measure of a list and of rows.
pub measured_for : (v : Result ℕ Refusal) (n : ℕ) → ForReasons v → ForReasons (measured_of v n)
unfolding measured_of
measured_for v n h = then_for v h (λ t. test_for (leb (n + 4) 4294967295) (done_for _) (refused_for OutputTooLong 0))

pub measure_for : (s : List ℕ) (checked : Bool) (xs : List LogItem) (ns : List ℕ) → ForReasons (measure_of s checked xs ns)
unfolding measure_of list_verdict
measure_for s checked xs ns = measured_for _ _ (test_for (leb (length xs) 256) (items_for s checked xs ns 0 0 0) (refused_for ItemsTooMany 0))

pub rows_for : (s : List ℕ) (checked : Bool) (rows : List (Result LogItem Reason)) (ns : List ℕ) → ForReasons (rows_measure s checked rows ns)
unfolding rows_measure rows_verdict
rows_for s checked rows ns =
    measured_for _ _ (test_for (leb (length rows) 256) (then_for _ (items_for s checked _ ns 0 0 0) (λ t. then_for _ (item_for _ _) (λ u. done_for t)))
    (refused_for ItemsTooMany 0))

-- What writing a measured body at a place answers.
pub encoded_for : (m : Result Measured Refusal) (all at : ℕ) → ForReasons m → ForReasons (encoded_in m all at)
encoded_for m all at h = then_for m h (λ b. test_for _ (test_for _ (done_for _) (refused_for OutputShort 0)) (done_for 0))

pub written_for : (m : Result Measured Refusal) (bytes out : List ℕ) (at : ℕ) (r : Result ℕ Refusal) (later : List ℕ)
    → ForReasons m → MeasuredWritten m bytes out at r later → ForReasons r
unfolding encoded_of
written_for m bytes out at r later h w = rw w.answer (encoded_for m _ at h)
