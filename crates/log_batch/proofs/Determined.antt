-- No second answer: two results, and two later contents of what is lent, that meet one contract are equal.
-- Assumes nothing.
use Rattle.std.proofs.Common.{◌≡◌, ℕ, List, Result, Ok, Err, sym, ◌∙◌}
use Rattle.one_answer.specs.OneAnswer.{OneAnswer}
use Rattle.log_batch.proofs.seal.check_seal.Kinds as check_seal_kinds
use Rattle.log_batch.proofs.seal.check_seal.Reads as check_seal_reads
use Rattle.log_batch.proofs.seal.sealed_len.Kinds as sealed_len_kinds
use Rattle.log_batch.proofs.seal.sealed_len.Reads as sealed_len_reads
use Rattle.log_batch.proofs.body.check_items.Kinds as check_items_kinds
use Rattle.log_batch.proofs.body.check_items.Reads as check_items_reads
use Rattle.log_batch.proofs.body.check.Kinds as check_kinds
use Rattle.log_batch.proofs.body.check.Reads as check_reads
use Rattle.log_batch.proofs.body.plain.Kinds as plain_kinds
use Rattle.log_batch.proofs.body.plain.Reads as plain_reads
use Rattle.words.specs.Part.{seen}
use Rattle.log_batch.proofs.table.read_items.Kinds as read_items_kinds
use Rattle.log_batch.proofs.table.read_items.Reads as read_items_reads
use Rattle.log_batch.proofs.LogItemBatch.decode.Kinds as decode_log_item_batch_kinds
use Rattle.log_batch.proofs.LogItemBatch.decode.Reads as decode_log_item_batch_reads
use Rattle.list_writer.specs.declared.Measured.{Measured}
use Rattle.refusal.specs.declared.Reason.{Reason}
use Rattle.refusal.specs.declared.Refusal.{Refusal}
use Rattle.list_writer.proofs.Determined.{written_once}
use Rattle.log_batch.proofs.LogItemBatch.encode.Kinds as encode_log_item_batch_kinds
use Rattle.log_batch.proofs.LogItemBatch.encode.Reads as encode_log_item_batch_reads
use Rattle.log_batch.proofs.LogItemBatch.encode_unchecked.Kinds as encode_unchecked_log_item_batch_kinds
use Rattle.log_batch.proofs.LogItemBatch.encode_unchecked.Reads as encode_unchecked_log_item_batch_reads
use Rattle.log_batch.proofs.AtomicGroupStatus.parse.Kinds as parse_kinds
use Rattle.log_batch.proofs.AtomicGroupStatus.parse.Reads as parse_reads
use Rattle.log_batch.proofs.status.AtomicGroupStatusTryFromU8.try_from.Kinds as try_from_kinds
use Rattle.log_batch.proofs.status.AtomicGroupStatusTryFromU8.try_from.Reads as try_from_reads
use Rattle.log_batch.proofs.view.check_entry.Kinds as check_entry_kinds
use Rattle.log_batch.proofs.view.check_entry.Reads as check_entry_reads
use Rattle.log_batch.proofs.view.entry_view.Kinds as entry_view_kinds
use Rattle.log_batch.proofs.view.entry_view.Reads as entry_view_reads
use Rattle.log_batch.proofs.front.begin.Kinds as begin_kinds
use Rattle.log_batch.proofs.front.begin.Reads as begin_reads
use Rattle.log_batch.specs.Header.{header_got}
use Rattle.log_batch.specs.Written.{BatchWritten}
use Rattle.log_batch.specs.declared.LogBatch.{LogBatch}
use Rattle.log_batch.proofs.LogBatch.decode_header.Kinds as decode_header_kinds
use Rattle.log_batch.proofs.LogBatch.decode_header.Reads as decode_header_reads
use Rattle.log_batch.proofs.LogBatch.decode.Kinds as decode_log_batch_kinds
use Rattle.log_batch.proofs.LogBatch.decode.Reads as decode_log_batch_reads
use Rattle.log_batch.proofs.LogBatch.body.Kinds as body_kinds
use Rattle.log_batch.proofs.LogBatch.body.Reads as body_reads
use Rattle.log_batch.proofs.LogBatch.block.Kinds as block_kinds
use Rattle.log_batch.proofs.LogBatch.block.Reads as block_reads
use Rattle.log_batch.proofs.LogBatch.check_front.Kinds as check_front_kinds
use Rattle.log_batch.proofs.LogBatch.check_front.Reads as check_front_reads
use Rattle.log_batch.proofs.LogBatch.encode.Kinds as encode_log_batch_kinds
use Rattle.log_batch.proofs.LogBatch.encode.Reads as encode_log_batch_reads
use Rattle.log_batch.proofs.LogBatch.encode_unchecked.Kinds as encode_unchecked_log_batch_kinds
use Rattle.log_batch.proofs.LogBatch.encode_unchecked.Reads as encode_unchecked_log_batch_reads

pub check_seal : OneAnswer 1 check_seal_kinds.ps check_seal_kinds.r check_seal_reads.Post (λ κs x y s t. x ≡ y)
check_seal κs a x y s t p q = p ∙ sym q

pub sealed_len : OneAnswer 0 sealed_len_kinds.ps sealed_len_kinds.r sealed_len_reads.Post (λ κs x y s t. x ≡ y)
sealed_len κs a x y s t p q = p ∙ sym q

pub check_items : OneAnswer 1 check_items_kinds.ps check_items_kinds.r check_items_reads.Post (λ κs x y s t. x ≡ y)
check_items κs a x y s t p q = p ∙ sym q

pub check : OneAnswer 1 check_kinds.ps check_kinds.r check_reads.Post (λ κs x y s t. x ≡ y)
check κs a x y s t p q = p ∙ sym q

pub plain : OneAnswer 1 plain_kinds.ps plain_kinds.r plain_reads.Post (λ κs x y s t. x ≡ y)
plain κs a x y s t p q = p ∙ sym q

pub read_items : OneAnswer 1 read_items_kinds.ps read_items_kinds.r read_items_reads.Post (λ κs x y s t. x ≡ y)
read_items κs a x y s t p q = p ∙ sym q

pub decode_log_item_batch : OneAnswer 1 decode_log_item_batch_kinds.ps decode_log_item_batch_kinds.r decode_log_item_batch_reads.Post (λ κs x y s t. x ≡ y)
decode_log_item_batch κs a x y s t p q = p ∙ sym q

pub encode_log_item_batch : OneAnswer 3 encode_log_item_batch_kinds.ps encode_log_item_batch_kinds.r encode_log_item_batch_reads.Post (λ κs x y s t. (x ≡ y) × (s.1.1.1.0.now ≡ t.1.1.1.0.now))
encode_log_item_batch κs a x y s t p q = written_once p q

pub encode_unchecked_log_item_batch : OneAnswer 3 encode_unchecked_log_item_batch_kinds.ps encode_unchecked_log_item_batch_kinds.r encode_unchecked_log_item_batch_reads.Post (λ κs x y s t. (x ≡ y) × (s.1.1.1.0.now ≡ t.1.1.1.0.now))
encode_unchecked_log_item_batch κs a x y s t p q = written_once p q

pub parse : OneAnswer 1 parse_kinds.ps parse_kinds.r parse_reads.Post (λ κs x y s t. x ≡ y)
parse κs a x y s t p q = p ∙ sym q

pub check_entry : OneAnswer 1 check_entry_kinds.ps check_entry_kinds.r check_entry_reads.Post (λ κs x y s t. x ≡ y)
check_entry κs a x y s t p q = p ∙ sym q

pub entry_view : OneAnswer 2 entry_view_kinds.ps entry_view_kinds.r entry_view_reads.Post (λ κs x y s t. (seen x ≡ seen y) × (s.1.1.1.0.now ≡ t.1.1.1.0.now))
entry_view κs a x y s t p q = (p.1 ∙ sym q.1, p.0 ∙ sym q.0)

pub begin : OneAnswer 2 begin_kinds.ps begin_kinds.r begin_reads.Post (λ κs x y s t. (x ≡ y) × (s.1.1.1.0.now ≡ t.1.1.1.0.now))
begin κs a x y s t p q = let e : x ≡ y = p.answer ∙ sym q.answer in (e, p.front ∙ (rw e (sym q.front)))

-- An answer says in the words of the definitions all that it says.
header_same : (a b : Result LogBatch Reason) → header_got a ≡ header_got b → a ≡ b
header_same (Ok x) (Ok y) e = cc
header_same (Ok x) (Err r) e = cc
header_same (Err r) (Ok x) e = cc
header_same (Err r) (Err x) e = cc

pub decode_header : OneAnswer 1 decode_header_kinds.ps decode_header_kinds.r decode_header_reads.Post (λ κs x y s t. x ≡ y)
decode_header κs a x y s t p q = header_same x y (p ∙ sym q)

pub decode_log_batch : OneAnswer 1 decode_log_batch_kinds.ps decode_log_batch_kinds.r decode_log_batch_reads.Post (λ κs x y s t. x ≡ y)
decode_log_batch κs a x y s t p q = p ∙ sym q

pub body : OneAnswer 0 body_kinds.ps body_kinds.r body_reads.Post (λ κs x y s t. x ≡ y)
body κs a x y s t p q = p ∙ sym q

pub block : OneAnswer 0 block_kinds.ps block_kinds.r block_reads.Post (λ κs x y s t. x ≡ y)
block κs a x y s t p q = p ∙ sym q

pub check_front : OneAnswer 1 check_front_kinds.ps check_front_kinds.r check_front_reads.Post (λ κs x y s t. x ≡ y)
check_front κs a x y s t p q = header_same x y (p ∙ sym q)

-- A measured batch has one answer, and leaves one buffer.
pub batch_once : {m : Result Measured Refusal} {items : ℕ} {content body out : List ℕ} {x y : Result ℕ Refusal} {later other : List ℕ} → BatchWritten m items content body out x later
    → BatchWritten m items content body out y other → (x ≡ y) × (later ≡ other)
batch_once {x = x} {y = y} p q = let e : x ≡ y = p.answer ∙ sym q.answer in (e, p.written ∙ (rw e (sym q.written)))

pub encode_log_batch : OneAnswer 4 encode_log_batch_kinds.ps encode_log_batch_kinds.r encode_log_batch_reads.Post (λ κs x y s t. (x ≡ y) × (s.1.1.1.1.0.now ≡ t.1.1.1.1.0.now))
encode_log_batch κs a x y s t p q = batch_once p q

pub encode_unchecked_log_batch : OneAnswer 4 encode_unchecked_log_batch_kinds.ps encode_unchecked_log_batch_kinds.r encode_unchecked_log_batch_reads.Post (λ κs x y s t. (x ≡ y) × (s.1.1.1.1.0.now ≡ t.1.1.1.1.0.now))
encode_unchecked_log_batch κs a x y s t p q = batch_once p q

pub try_from : OneAnswer 0 try_from_kinds.ps try_from_kinds.r try_from_reads.Post (λ κs x y s t. x ≡ y)
try_from κs a x y s t p q = p ∙ sym q
