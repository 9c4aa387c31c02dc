-- No second answer: two results, and two later contents of a lent buffer, that meet one contract are equal.
-- Assumes nothing.
use mathlib.Core.Path.{◌≡◌, refl, sym, ◌∙◌, ap}
use Rattle.one_answer.specs.OneAnswer.{OneAnswer}
use Rattle.std.specs.Prelude.{Result, Ok, Err}
use Rattle.words.specs.declared.Piece.{Piece}
use Rattle.words.specs.Got.{Got, got, refused, got_of}
use Rattle.words.specs.Word.{piece}
use Rattle.refusal.specs.declared.Reason.{Reason}
use Rattle.log_item.proofs.piece.read_number.Kinds as read_number_kinds
use Rattle.log_item.proofs.piece.read_number.Reads as read_number_reads
use Rattle.log_item.proofs.prefix.lies_in.Kinds as lies_in_kinds
use Rattle.log_item.proofs.prefix.lies_in.Reads as lies_in_reads
use Rattle.log_item.proofs.prefix.starts_with.Kinds as starts_with_kinds
use Rattle.log_item.proofs.prefix.starts_with.Reads as starts_with_reads
use Rattle.log_item.proofs.LogItem.decode.Kinds as decode_kinds
use Rattle.log_item.proofs.LogItem.decode.Reads as decode_reads
use Rattle.log_item.proofs.LogItem.pass.Kinds as pass_kinds
use Rattle.log_item.proofs.LogItem.pass.Reads as pass_reads
use Rattle.log_item.proofs.LogItem.decode_head.Kinds as decode_head_kinds
use Rattle.log_item.proofs.LogItem.decode_head.Reads as decode_head_reads
use Rattle.log_item.proofs.LogItem.entries.Kinds as entries_kinds
use Rattle.log_item.proofs.LogItem.entries.Reads as entries_reads
use Rattle.log_item.proofs.EntryIndexes.decode_tail.Kinds as decode_tail_kinds
use Rattle.log_item.proofs.EntryIndexes.decode_tail.Reads as decode_tail_reads
use Rattle.log_item.proofs.Command.encode.Kinds as encode_command_kinds
use Rattle.log_item.proofs.Command.encode.Reads as encode_command_reads
use Rattle.log_item.proofs.KeyValue.encode.Kinds as encode_key_value_kinds
use Rattle.log_item.proofs.KeyValue.encode.Reads as encode_key_value_reads
use Rattle.log_item.proofs.EntryIndexes.encode.Kinds as encode_entry_indexes_kinds
use Rattle.log_item.proofs.EntryIndexes.encode.Reads as encode_entry_indexes_reads
use Rattle.log_item.proofs.LogItem.encode_head.Kinds as encode_head_kinds
use Rattle.log_item.proofs.LogItem.encode_head.Reads as encode_head_reads
use Rattle.log_item.proofs.LogItem.measure.Kinds as measure_kinds
use Rattle.log_item.proofs.LogItem.measure.Reads as measure_reads
use Rattle.log_item.proofs.LogItem.encode.Kinds as encode_kinds
use Rattle.log_item.proofs.LogItem.encode.Reads as encode_reads
use Rattle.log_item.proofs.pass.NotPassedFromReason.from.Kinds as from_kinds
use Rattle.log_item.proofs.pass.NotPassedFromReason.from.Reads as from_reads

-- An answer says in the words of the definitions all that it says.
abbrev answer : {A : Type 0} → Got A → Result (Piece A) Reason
answer (got x q) = Ok (piece x q)
answer (refused r) = Err r

answered : {A : Type 0} (a : Result (Piece A) Reason) → answer (got_of a) ≡ a
answered (Ok x) = refl
answered (Err r) = refl

got_same : {A : Type 0} (a b : Result (Piece A) Reason) → got_of a ≡ got_of b → a ≡ b
got_same a b e = sym (answered a) ∙ ap answer e ∙ answered b

pub read_number : OneAnswer 1 read_number_kinds.ps read_number_kinds.r read_number_reads.Post (λ κs x y s t. x ≡ y)
read_number κs a x y s t p q = got_same x y (p ∙ sym q)

pub lies_in : OneAnswer 1 lies_in_kinds.ps lies_in_kinds.r lies_in_reads.Post (λ κs x y s t. x ≡ y)
lies_in κs a x y s t p q = p ∙ sym q

pub starts_with : OneAnswer 2 starts_with_kinds.ps starts_with_kinds.r starts_with_reads.Post (λ κs x y s t. x ≡ y)
starts_with κs a x y s t p q = p ∙ sym q

pub decode : OneAnswer 1 decode_kinds.ps decode_kinds.r decode_reads.Post (λ κs x y s t. x ≡ y)
decode κs a x y s t p q = got_same x y (p ∙ sym q)

pub pass : OneAnswer 1 pass_kinds.ps pass_kinds.r pass_reads.Post (λ κs x y s t. x ≡ y)
pass κs a x y s t p q = p ∙ sym q

pub decode_head : OneAnswer 1 decode_head_kinds.ps decode_head_kinds.r decode_head_reads.Post (λ κs x y s t. x ≡ y)
decode_head κs a x y s t p q = got_same x y (p ∙ sym q)

pub entries : OneAnswer 0 entries_kinds.ps entries_kinds.r entries_reads.Post (λ κs x y s t. x ≡ y)
entries κs a x y s t p q = p ∙ sym q

pub decode_tail : OneAnswer 1 decode_tail_kinds.ps decode_tail_kinds.r decode_tail_reads.Post (λ κs x y s t. x ≡ y)
decode_tail κs a x y s t p q = got_same x y (p ∙ sym q)

pub measure : OneAnswer 1 measure_kinds.ps measure_kinds.r measure_reads.Post (λ κs x y s t. x ≡ y)
measure κs a x y s t p q = p ∙ sym q

pub encode_head : OneAnswer 2 encode_head_kinds.ps encode_head_kinds.r encode_head_reads.Post (λ κs x y s t. (x ≡ y) × (s.1.1.0.now ≡ t.1.1.0.now))
encode_head κs a x y s t p q = (p.answer ∙ sym q.answer, p.written ∙ sym q.written)

pub encode_command : OneAnswer 1 encode_command_kinds.ps encode_command_kinds.r encode_command_reads.Post (λ κs x y s t. (x ≡ y) × (s.1.0.now ≡ t.1.0.now))
encode_command κs a x y s t p q = (p.answer ∙ sym q.answer, p.written ∙ sym q.written)

pub encode_key_value : OneAnswer 2 encode_key_value_kinds.ps encode_key_value_kinds.r encode_key_value_reads.Post (λ κs x y s t. (x ≡ y) × (s.1.1.0.now ≡ t.1.1.0.now))
encode_key_value κs a x y s t p q = (p.answer ∙ sym q.answer, p.written ∙ sym q.written)

pub encode_entry_indexes : OneAnswer 1 encode_entry_indexes_kinds.ps encode_entry_indexes_kinds.r encode_entry_indexes_reads.Post (λ κs x y s t. (x ≡ y) × (s.1.0.now ≡ t.1.0.now))
encode_entry_indexes κs a x y s t p q = (p.answer ∙ sym q.answer, p.written ∙ sym q.written)

pub encode_log_item : OneAnswer 3 encode_kinds.ps encode_kinds.r encode_reads.Post (λ κs x y s t. (x ≡ y) × (s.1.1.1.1.0.now ≡ t.1.1.1.1.0.now))
encode_log_item κs a x y s t p q = (p.answer ∙ sym q.answer, p.written ∙ sym q.written)

pub from : OneAnswer 0 from_kinds.ps from_kinds.r from_reads.Post (λ κs x y s t. x ≡ y)
from κs a x y s t p q = p ∙ sym q
