-- No second answer: two results, and two later contents of a lent buffer, that meet one contract are equal.
-- Assumes nothing.
use mathlib.Core.Path.{◌≡◌, sym, ◌∙◌}
use Rattle.one_answer.specs.OneAnswer.{OneAnswer}
use Rattle.codec.proofs.decode_var_u64.Kinds as decode_kinds
use Rattle.codec.proofs.decode_var_u64.Reads as decode_reads
use Rattle.codec.proofs.decode_var_u64_unrolled.Kinds as unrolled_kinds
use Rattle.codec.proofs.decode_var_u64_unrolled.Reads as unrolled_reads
use Rattle.codec.proofs.var_u64_len.Kinds as len_kinds
use Rattle.codec.proofs.var_u64_len.Reads as len_reads
use Rattle.codec.proofs.encode_var_u64.Kinds as encode_kinds
use Rattle.codec.proofs.encode_var_u64.Reads as encode_reads
use Rattle.codec.proofs.encode_var_u64_unrolled.Kinds as encode_unrolled_kinds
use Rattle.codec.proofs.encode_var_u64_unrolled.Reads as encode_unrolled_reads
use Rattle.codec.proofs.put_var_u64.Kinds as put_kinds
use Rattle.codec.proofs.put_var_u64.Reads as put_reads

pub decode_var_u64 : OneAnswer 1 decode_kinds.ps decode_kinds.r decode_reads.Post (λ κs x y s t. x ≡ y)
decode_var_u64 κs a x y s t p q = p ∙ sym q

pub decode_var_u64_unrolled : OneAnswer 1 unrolled_kinds.ps unrolled_kinds.r unrolled_reads.Post (λ κs x y s t. x ≡ y)
decode_var_u64_unrolled κs a x y s t p q = p ∙ sym q

pub var_u64_len : OneAnswer 0 len_kinds.ps len_kinds.r len_reads.Post (λ κs x y s t. x ≡ y)
var_u64_len κs a x y s t p q = p ∙ sym q

pub put_var_u64 : OneAnswer 1 put_kinds.ps put_kinds.r put_reads.Post (λ κs x y s t. (x ≡ y) × (s.1.0.now ≡ t.1.0.now))
put_var_u64 κs a x y s t p q = (p.0 ∙ sym q.0, p.1 ∙ sym q.1)

pub encode_var_u64 : OneAnswer 1 encode_kinds.ps encode_kinds.r encode_reads.Post (λ κs x y s t. (x ≡ y) × (s.1.0.now ≡ t.1.0.now))
encode_var_u64 κs a x y s t p q = (p.0 ∙ sym q.0, p.1 ∙ sym q.1)

pub encode_var_u64_unrolled : OneAnswer 1 encode_unrolled_kinds.ps encode_unrolled_kinds.r encode_unrolled_reads.Post (λ κs x y s t. (x ≡ y) × (s.1.0.now ≡ t.1.0.now))
encode_var_u64_unrolled κs a x y s t p q = (p.0 ∙ sym q.0, p.1 ∙ sym q.1)
