-- No second answer: two results, and two later contents of what is lent, that meet one contract are equal.
-- Assumes nothing.
use Prim.Native.Nat.{ℕ}
use mathlib.Core.Path.{◌≡◌, sym, ap, ◌∙◌}
use mathlib.Core.List.{List}
use Rattle.one_answer.specs.OneAnswer.{OneAnswer}
use Rattle.item_row.specs.Reply.{Reply, reply}
use Rattle.item_row.proofs.Replies.{same}
use Rattle.list_writer.proofs.Determined.{written_once}
use Rattle.log_batch.proofs.Determined.{batch_once}
use Rattle.raft_log.specs.Answers.{Replied, check_reply, batch_reply, written_reply}
use Rattle.raft_log.specs.Locations.{rewrite_reply}
use Rattle.raft_log.proofs.raft_log_crc32.Kinds as crc32_kinds
use Rattle.raft_log.proofs.raft_log_crc32.Reads as crc32_reads
use Rattle.raft_log.proofs.raft_log_read_number.Kinds as read_number_kinds
use Rattle.raft_log.proofs.raft_log_read_number.Reads as read_number_reads
use Rattle.raft_log.proofs.raft_log_write_number.Kinds as write_number_kinds
use Rattle.raft_log.proofs.raft_log_write_number.Reads as write_number_reads
use Rattle.raft_log.proofs.raft_log_read_header.Kinds as read_header_kinds
use Rattle.raft_log.proofs.raft_log_read_header.Reads as read_header_reads
use Rattle.raft_log.proofs.raft_log_check_body.Kinds as check_body_kinds
use Rattle.raft_log.proofs.raft_log_check_body.Reads as check_body_reads
use Rattle.raft_log.proofs.raft_log_is_plain.Kinds as is_plain_kinds
use Rattle.raft_log.proofs.raft_log_is_plain.Reads as is_plain_reads
use Rattle.raft_log.proofs.raft_log_entry_view.Kinds as entry_view_kinds
use Rattle.raft_log.proofs.raft_log_entry_view.Reads as entry_view_reads
use Rattle.raft_log.proofs.raft_log_status.Kinds as status_kinds
use Rattle.raft_log.proofs.raft_log_status.Reads as status_reads
use Rattle.raft_log.proofs.reading.raft_log_read_body.Kinds as read_body_kinds
use Rattle.raft_log.proofs.reading.raft_log_read_body.Reads as read_body_reads
use Rattle.raft_log.proofs.reading.raft_log_read_batch.Kinds as read_batch_kinds
use Rattle.raft_log.proofs.reading.raft_log_read_batch.Reads as read_batch_reads
use Rattle.raft_log.proofs.writing.raft_log_write_body.Kinds as write_body_kinds
use Rattle.raft_log.proofs.writing.raft_log_write_body.Reads as write_body_reads
use Rattle.raft_log.proofs.writing.raft_log_write_batch.Kinds as write_batch_kinds
use Rattle.raft_log.proofs.writing.raft_log_write_batch.Reads as write_batch_reads
use Rattle.raft_log.proofs.locations.raft_log_rewrite.Kinds as rewrite_kinds
use Rattle.raft_log.proofs.locations.raft_log_rewrite.Reads as rewrite_reads
use Rattle.raft_log.proofs.locations.raft_log_fetch.Kinds as fetch_kinds
use Rattle.raft_log.proofs.locations.raft_log_fetch.Reads as fetch_reads

-- Two replies for answers that are replied alike.
same_replied : {A : Type 0} {P Q : A → Type 0} {f : A → Reply} {m n : ℕ} {v w : List ℕ} (p : Replied P f (reply m v)) (q : Replied Q f (reply n w))
    → f p.answer ≡ f q.answer → (m ≡ n) × (v ≡ w)
same_replied p q e = same (p.replied ∙ e) q.replied

pub crc32 : OneAnswer 1 crc32_kinds.ps crc32_kinds.r crc32_reads.Post (λ κs x y s t. x ≡ y)
crc32 κs a x y s t p q = p ∙ sym q

pub read_number : OneAnswer 2 read_number_kinds.ps read_number_kinds.r read_number_reads.Post (λ κs x y s t. (x ≡ y) × (s.1.1.0.now ≡ t.1.1.0.now))
read_number κs a x y s t p q = same p q

pub write_number : OneAnswer 2 write_number_kinds.ps write_number_kinds.r write_number_reads.Post
    (λ κs x y s t. (x ≡ y) × (s.1.1.1.0.now ≡ t.1.1.1.0.now) × (s.1.0.now ≡ t.1.0.now))
write_number κs a x y s t p q = let e = same p.0 q.0 in (e.0, e.1, p.1 ∙ sym q.1)

pub read_header : OneAnswer 2 read_header_kinds.ps read_header_kinds.r read_header_reads.Post (λ κs x y s t. (x ≡ y) × (s.1.0.now ≡ t.1.0.now))
read_header κs a x y s t p q = same p q

pub check_body : OneAnswer 2 check_body_kinds.ps check_body_kinds.r check_body_reads.Post (λ κs x y s t. (x ≡ y) × (s.1.1.0.now ≡ t.1.1.0.now))
check_body κs a x y s t p q = same p q

pub is_plain : OneAnswer 2 is_plain_kinds.ps is_plain_kinds.r is_plain_reads.Post (λ κs x y s t. (x ≡ y) × (s.1.1.0.now ≡ t.1.1.0.now))
is_plain κs a x y s t p q = same p q

pub entry_view : OneAnswer 4 entry_view_kinds.ps entry_view_kinds.r entry_view_reads.Post (λ κs x y s t. (x ≡ y) × (s.1.1.1.0.now ≡ t.1.1.1.0.now))
entry_view κs a x y s t p q = same p q

pub status : OneAnswer 3 status_kinds.ps status_kinds.r status_reads.Post (λ κs x y s t. (x ≡ y) × (s.1.1.0.now ≡ t.1.1.0.now))
status κs a x y s t p q = same p q

pub read_body : OneAnswer 4 read_body_kinds.ps read_body_kinds.r read_body_reads.Post
    (λ κs x y s t. (x ≡ y) × (s.1.1.1.1.0.now ≡ t.1.1.1.1.0.now) × (s.1.1.0.now ≡ t.1.1.0.now) × (s.1.1.1.0.now ≡ t.1.1.1.0.now))
read_body κs a x y s t p q =
    let v = p.promised in
    let w = q.promised in
    let e = same_replied p q (ap check_reply (v.answer ∙ sym w.answer)) in
    (e.0, e.1, v.rows.item_rows ∙ sym w.rows.item_rows, v.rows.entry_rows ∙ sym w.rows.entry_rows)

pub read_batch : OneAnswer 4 read_batch_kinds.ps read_batch_kinds.r read_batch_reads.Post
    (λ κs x y s t. (x ≡ y) × (s.1.1.1.1.0.now ≡ t.1.1.1.1.0.now) × (s.1.1.0.now ≡ t.1.1.0.now) × (s.1.1.1.0.now ≡ t.1.1.1.0.now))
read_batch κs a x y s t p q =
    let v = p.promised in
    let w = q.promised in
    let e = same_replied p q (ap batch_reply (v.answer ∙ sym w.answer)) in
    (e.0, e.1, v.rows.item_rows ∙ sym w.rows.item_rows, v.rows.entry_rows ∙ sym w.rows.entry_rows)

pub write_body : OneAnswer 5 write_body_kinds.ps write_body_kinds.r write_body_reads.Post
    (λ κs x y s t. (x ≡ y) × (s.1.1.1.1.1.1.0.now ≡ t.1.1.1.1.1.1.0.now) × (s.1.1.1.1.1.0.now ≡ t.1.1.1.1.1.0.now))
write_body κs a x y s t p q =
    let k = written_once p.promised q.promised in
    let e = same_replied p q (ap written_reply k.0) in
    (e.0, e.1, k.1)

pub write_batch : OneAnswer 6 write_batch_kinds.ps write_batch_kinds.r write_batch_reads.Post
    (λ κs x y s t. (x ≡ y) × (s.1.1.1.1.1.1.1.0.now ≡ t.1.1.1.1.1.1.1.0.now) × (s.1.1.1.1.1.1.0.now ≡ t.1.1.1.1.1.1.0.now))
write_batch κs a x y s t p q =
    let k = batch_once p.promised q.promised in
    let e = same_replied p q (ap written_reply k.0) in
    (e.0, e.1, k.1)

pub rewrite : OneAnswer 3 rewrite_kinds.ps rewrite_kinds.r rewrite_reads.Post
    (λ κs x y s t. (x ≡ y) × (s.1.1.1.1.1.1.1.0.now ≡ t.1.1.1.1.1.1.1.0.now) × (s.0.now ≡ t.0.now))
rewrite κs a x y s t p q =
    let e = same_replied p q (ap (rewrite_reply a.1.1.0) (p.promised.answer ∙ sym q.promised.answer)) in
    (e.0, e.1, p.promised.after ∙ sym q.promised.after)

pub fetch : OneAnswer 2 fetch_kinds.ps fetch_kinds.r fetch_reads.Post (λ κs x y s t. (x ≡ y) × (s.1.1.1.1.0.now ≡ t.1.1.1.1.0.now))
fetch κs a x y s t p q = same p q
