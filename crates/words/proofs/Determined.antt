-- No second answer: two results, and two later contents of a lent buffer, that meet one contract are equal.
-- Assumes nothing.
use mathlib.Core.Path.{◌≡◌, sym, ◌∙◌}
use Rattle.one_answer.specs.OneAnswer.{OneAnswer}
use Rattle.words.proofs.least.Kinds as least_kinds
use Rattle.words.proofs.least.Reads as least_reads
use Rattle.words.proofs.wide.Kinds as wide_kinds
use Rattle.words.proofs.wide.Reads as wide_reads
use Rattle.words.proofs.decode_u64.Kinds as decode_u64_kinds
use Rattle.words.proofs.decode_u64.Reads as decode_u64_reads
use Rattle.words.proofs.encode_u64.Kinds as encode_u64_kinds
use Rattle.words.proofs.encode_u64.Reads as encode_u64_reads
use Rattle.words.proofs.decode_u32_le.Kinds as decode_u32_kinds
use Rattle.words.proofs.decode_u32_le.Reads as decode_u32_reads
use Rattle.words.proofs.encode_u32_le.Kinds as encode_u32_kinds
use Rattle.words.proofs.encode_u32_le.Reads as encode_u32_reads
use Rattle.words.proofs.write_bytes.Kinds as write_kinds
use Rattle.words.proofs.write_bytes.Reads as write_reads

pub least : OneAnswer 0 least_kinds.ps least_kinds.r least_reads.Post (λ κs x y s t. x ≡ y)
least κs a x y s t p q = p ∙ sym q

pub wide : OneAnswer 0 wide_kinds.ps wide_kinds.r wide_reads.Post (λ κs x y s t. x ≡ y)
wide κs a x y s t p q = p ∙ sym q

pub decode_u64 : OneAnswer 1 decode_u64_kinds.ps decode_u64_kinds.r decode_u64_reads.Post (λ κs x y s t. x ≡ y)
decode_u64 κs a x y s t p q = p ∙ sym q

pub encode_u64 : OneAnswer 1 encode_u64_kinds.ps encode_u64_kinds.r encode_u64_reads.Post (λ κs x y s t. (x ≡ y) × (s.1.0.now ≡ t.1.0.now))
encode_u64 κs a x y s t p q = (p.0 ∙ sym q.0, p.1 ∙ sym q.1)

pub decode_u32_le : OneAnswer 1 decode_u32_kinds.ps decode_u32_kinds.r decode_u32_reads.Post (λ κs x y s t. x ≡ y)
decode_u32_le κs a x y s t p q = p ∙ sym q

pub encode_u32_le : OneAnswer 1 encode_u32_kinds.ps encode_u32_kinds.r encode_u32_reads.Post (λ κs x y s t. (x ≡ y) × (s.1.0.now ≡ t.1.0.now))
encode_u32_le κs a x y s t p q = (p.0 ∙ sym q.0, p.1 ∙ sym q.1)

pub write_bytes : OneAnswer 2 write_kinds.ps write_kinds.r write_reads.Post (λ κs x y s t. (x ≡ y) × (s.1.0.now ≡ t.1.0.now))
write_bytes κs a x y s t p q = (p.0 ∙ sym q.0, p.1 ∙ sym q.1)
