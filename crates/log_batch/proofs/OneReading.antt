-- Demand 3 of what a caller gets: each answer that meets the contract of a reader, for any bytes under any signature.
-- Assumes nothing.
use Rattle.std.proofs.Common.{◌≡◌, ℕ, ◌+◌, ◌-◌, ◌*◌, ◌/◌, ◌%◌, ◌<◌, ◌≤◌, ◌↔◌, List, [], ◌∷◌, ◌++◌, length, take, drop, None, Ok, sym, refl, ap, ◌∙◌, append_assoc, add-sub_of_le, arith, length-append, length-drop, take-append-drop, length-take, drop-drop, eq-eqb, ne_eqb}
use lib.Bits.{xor_zero_r}
use contract.Lifetimes.{Lfts}
use denote.Triple.Clauses.{AtExit}
use borrow.Fn.Kinds.{ParamKind, ResultKind, Out, Dens, res_t, ended_of}
use Rattle.words.specs.Word.{big_endian}
use Rattle.crc.specs.Crc.{crc_of}
use Rattle.refusal.specs.First.{fine}
use Rattle.refusal.specs.declared.Reason.TheVariants.{BatchShort, Compressed, CompressionUnknown, HeaderShort, OffsetAboveLength, OffsetBelowHeader}
use Rattle.log_item.specs.Got.{got}
use Rattle.log_item.specs.declared.Span.{Span}
use Rattle.log_item.specs.declared.LogItem.{LogItem}
use Rattle.log_item.specs.declared.EntryIndex.{EntryIndex}
use Rattle.log_item.proofs.Holds.{Holds, holds, after, at_most, equal, of_got}
use Rattle.log_batch.specs.Acceptable.{Acceptable, Block, AcceptableBatch}
use Rattle.log_batch.specs.Acceptable as acceptable
use Rattle.log_batch.specs.Reading.{Answer, accepted, rejected}
use Rattle.log_batch.specs.Body.{read_body}
use Rattle.log_batch.specs.declared.BodyCheck.{BodyCheck}
use Rattle.log_batch.specs.Answers.{check_of}
use Rattle.log_batch.specs.Table.{table_of, body_table}
use Rattle.log_batch.specs.Seal.{sealed_length, sealed_part, seal_check, block_check}
use Rattle.log_batch.specs.declared.LogItemBatch.{LogItemBatch}
use Rattle.log_batch.specs.declared.LogBatch.{LogBatch}
use Rattle.log_batch.specs.Header.{frame, header}
use Rattle.log_batch.specs.Batch.{block_of, body_of, front_batch, read_batch}
use Rattle.log_batch.proofs.Bodies.{sound_body, complete_body}
use Rattle.log_batch.proofs.Sealing.{sealed, sealed_of, block_some}
use Rattle.log_batch.proofs.Frames.{front_known, passing_holds}
use Rattle.log_batch.proofs.Parts.{all, stated, block_there, body_there, front_there}
use Rattle.log_batch.proofs.Whole.{body_read, batch_exactly}
use Rattle.log_batch.proofs.LogItemBatch.decode.Kinds as body_kinds
use Rattle.log_batch.proofs.LogItemBatch.decode.Reads as body_Reads
use Rattle.log_batch.proofs.body.check.Kinds as check_kinds
use Rattle.log_batch.proofs.body.check.Reads as check_reads
use Rattle.log_batch.proofs.LogBatch.decode.Kinds as batch_kinds
use Rattle.log_batch.proofs.LogBatch.decode.Reads as batch_reads

-- What holds of each answer that keeps a function's promise.
abbrev EachAnswer : (n : ℕ) (ps : List (ParamKind n)) (r : ResultKind n) → Out n ps r
    → ((κs : Lfts n) (a : Dens κs ps) (x : (res_t r κs).Denot) → Type 0) → Type 0
EachAnswer n ps r Post Holds = (κs : Lfts n) (a : Dens κs ps) (x : (res_t r κs).Denot) (s : AtExit (ended_of n ps r) κs) → Post κs a x s → Holds κs a x

-- ---- bodies

-- A table with no refusal is that of an accepted body.
none_refused : (place block : Span) (body : List ℕ) (signature : ℕ) (a : Answer) → read_body body signature ≡ a → (table_of place block a).refusal ≡ None
    → (xs : List LogItem) × (rows : List EntryIndex) × (total : ℕ) × (bytes : List ℕ) × Acceptable body signature xs rows total bytes
unfolding table_of
none_refused place block body signature (accepted xs rows u q) e z = let h = sound_body body signature e in (xs, rows, u, h.0, h.1)
none_refused place block body signature (rejected r i) e z = cc

-- `LogItemBatch::decode`: the table's refusal is none exactly when the body is acceptable for some list, and then the table is that list's.
pub body_decoded : EachAnswer 1 body_kinds.ps body_kinds.r body_Reads.Post λ κs a t. let body = a.0.now in let signature = a.1.0 in
    ((t.refusal ≡ None) ↔ ((xs : List LogItem) × (rows : List EntryIndex) × (total : ℕ) × (bytes : List ℕ) × Acceptable body signature xs rows total bytes))
    × ((xs : List LogItem) (rows : List EntryIndex) (total : ℕ) (bytes : List ℕ) → Acceptable body signature xs rows total bytes
    → t ≡ body_table body (accepted xs rows total (length bytes)))
unfolding table_of
body_decoded κs a t s p =
    let body = a.0.now in
    let signature = a.1.0 in (
      (λ z. none_refused _ _ body signature (read_body body signature) refl (rw p at z), λ h. rw (p, complete_body body signature h.4)),
      λ xs rows total bytes h. rw (p, complete_body body signature h),
    )

-- `check`: it accepts exactly when the body is acceptable for some list, and then tells the counts, the entry total and the place after that list.
pub body_checked : EachAnswer 1 check_kinds.ps check_kinds.r check_reads.Post λ κs a r. let body = a.0.now in let signature = a.1.0 in
    (((x : BodyCheck) × (r ≡ Ok x))
    ↔ ((xs : List LogItem) × (rows : List EntryIndex) × (total : ℕ) × (bytes : List ℕ) × Acceptable body signature xs rows total bytes))
    × ((xs : List LogItem) (rows : List EntryIndex) (total : ℕ) (bytes : List ℕ) → Acceptable body signature xs rows total bytes
    → r ≡ Ok (record { items = length xs; entries = length rows; total = total; next = length bytes }))
body_checked κs a r s p =
    let body = a.0.now in
    let signature = a.1.0 in (
      (λ k. some body signature (read_body body signature) refl (sym p ∙ k.1), λ h. (_, p ∙ ap check_of (complete_body body signature h.4))),
      λ xs rows total bytes h. p ∙ ap check_of (complete_body body signature h),
    )
  where
    some : (body : List ℕ) (signature : ℕ) (b : Answer) {x : BodyCheck} → read_body body signature ≡ b → check_of b ≡ Ok x
        → (xs : List LogItem) × (rows : List EntryIndex) × (total : ℕ) × (bytes : List ℕ) × Acceptable body signature xs rows total bytes
    some body signature (accepted xs rows u q) e f = let h = sound_body body signature e in (xs, rows, u, h.0, h.1)
    some body signature (rejected r i) e f = cc

-- ---- a block

-- A block that passes its check is empty, or content and its checksum.
block_sound : (b : List ℕ) → block_check b ≡ fine → Block (sealed_part b) b
unfolding block_check
block_sound [] e = acceptable.Block.empty
block_sound (x ∷ xs) e =
    let b : List ℕ = x ∷ xs in
    let k = sealed b 0 (rw (ne_eqb (length b) 0 (λ z. omega arith)) at e) in
    let long = k.long in
    let some : 0 < length (sealed_part b) = omega (arith, length-take (sealed_length b) b) in
    let four : length (drop (sealed_length b) b) ≡ 4 = omega (arith, length-drop (sealed_length b) b) in
    acceptable.Block.filled (drop (sealed_length b) b) (sym (take-append-drop (sealed_length b) b)) some four (k.right ∙ xor_zero_r (crc_of (sealed_part b)))

-- The other way round; and how much content there is.
block_complete : {content b : List ℕ} → Block content b → (block_check b ≡ fine) × (sealed_length b ≡ length content)
unfolding block_check
block_complete acceptable.Block.empty = (refl, refl)
block_complete {content} {b} (acceptable.Block.filled last split some four checks) =
    let long : length b ≡ length content + 4 = ap length split ∙ length-append content last ∙ ap (λ (n : ℕ). length content + n) four in
    let good = sealed_of content last 0 some four (checks ∙ sym (xor_zero_r (crc_of content))) in
    (block_some b (λ z. omega arith) ∙ ap (λ (l : List ℕ). seal_check l 0) split ∙ good, omega arith)

-- ---- the header

-- What a header that is read states: its two words.
record States (s : List ℕ) (h : LogBatch) : Type 0 where
  there : 16 ≤ length s
  first : big_endian (take 8 s) ≡ h.len * 256 + h.compression
  second : big_endian (take 8 (drop 8 s)) ≡ h.offset

-- the same, not compressed, and its block passes the check
record Stands (s : List ℕ) (h : LogBatch) : Type 0 where
  states : States s h
  none : h.compression ≡ 0
  block : block_check (block_of h s) ≡ fine

module _ (s : List ℕ) where
  header_states : (p : ℕ) → Holds (λ h q. States s h) (header s p)
  unfolding header frame
  header_states p =
      let a : ℕ = big_endian (take 8 s) in
      let b : ℕ = big_endian (take 8 (drop 8 s)) in
      at_most 16 (length s) HeaderShort _ p λ there.
      at_most (a % 256) 1 CompressionUnknown _ p λ _.
      at_most b (a / 256) OffsetAboveLength _ p λ _.
      at_most 16 b OffsetBelowHeader _ p λ _.
      holds (record { there = there; first = omega arith; second = refl })

  front_stands : (p : ℕ) → Holds (λ h q. Stands s h) (front_batch s p)
  unfolding front_batch
  front_stands p =
      after (header_states p) λ h q k.
      at_most h.len (length s) BatchShort _ q λ there.
      equal h.compression 0 Compressed _ q λ none.
      after (passing_holds (block_check (block_of h s)) q) λ u z block.
      holds (record { states = k; none = none; block = block })

-- ---- whole batches

-- Bytes from m on are those up to n and those from there on.
cut : (m n : ℕ) (s : List ℕ) → m ≤ n → drop m s ≡ take (n - m) (drop m s) ++ drop n s
cut m n s h =
    sym (take-append-drop (n - m) (drop m s))
    ∙ ap (λ (l : List ℕ). take (n - m) (drop m s) ++ l) (drop-drop (n - m) m s ∙ ap (λ (k : ℕ). drop k s) (add-sub_of_le h))

-- Bytes are the two words, what stands up to o, what stands up to l, and what is past that.
parts : (o l : ℕ) (s : List ℕ) → 16 ≤ o → o ≤ l → s ≡ take 8 s ++ take 8 (drop 8 s) ++ take (o - 16) (drop 16 s) ++ take (l - o) (drop o s) ++ drop l s
parts o l s h k =
    simp append_assoc
    (sym (take-append-drop 8 s)
    ∙ ap (λ (t : List ℕ). take 8 s ++ t)
    (cut 8 16 s (omega arith) ∙ ap (λ (t : List ℕ). take 8 (drop 8 s) ++ t) (cut 16 o s h ∙ ap (λ (t : List ℕ). take (o - 16) (drop 16 s) ++ t) (cut o l s k))))

module _ (s : List ℕ) (signature : ℕ) where
  -- An accepted batch is acceptable, for the block and body that its header states.
  batch_sound : {h : LogBatch} {q : ℕ} → front_batch s 0 ≡ got h q → {xs : List LogItem} {rows : List EntryIndex} {bytes : List ℕ}
      → Acceptable (body_of h s) signature xs rows (sealed_length (block_of h s)) bytes
      → AcceptableBatch s signature (block_of h s) (body_of h s) xs rows (sealed_length (block_of h s)) bytes
  batch_sound {h} e a =
      let k = of_got (front_stands s 0) e in
      let g = front_known s e in
      let words = k.states in
      let block : length (block_of h s) ≡ h.offset - 16 = omega (arith, length-take (h.offset - 16) (drop 16 s), length-drop 16 s) in
      let body : length (body_of h s) ≡ h.len - h.offset = omega (arith, length-take (h.len - h.offset) (drop h.offset s), length-drop h.offset s) in
      record {
        first = take 8 s;
        second = take 8 (drop 8 s);
        past = drop h.len s;
        content = sealed_part (block_of h s);
        split = parts h.offset h.len s g.start g.inside;
        eight = (omega (arith, length-take 8 s), omega (arith, length-take 8 (drop 8 s), length-drop 8 s));
        whole = omega arith;
        offset = omega arith;
        sealed = block_sound (block_of h s) k.block;
        agrees = omega (arith, length-take (sealed_length (block_of h s)) (block_of h s));
        acceptable = a;
      }

  -- An acceptable batch is read: the table is its list's.
  batch_complete : {block body : List ℕ} {xs : List LogItem} {rows : List EntryIndex} {total : ℕ} {bytes : List ℕ} → AcceptableBatch s signature block body xs rows total bytes
      → read_batch s signature ≡ table_of (record { at = 16 + length block; len = length body }) (record { at = 16; len = length block }) (accepted xs rows total (length bytes))
  batch_complete {block} {body} {xs} {rows} {total} {bytes} a =
      let f : List ℕ = a.first in
      let g : List ℕ = a.second in
      let v : List ℕ = a.past in
      let e = a.eight.0 in
      let h = a.eight.1 in
      let block_good = block_complete a.sealed in
      let front = front_there f g block body v e h a.whole a.offset block_good.0 in
      let size : sealed_length (block_of (stated block body) (all f g block body v)) ≡ length a.content =
      ap sealed_length (block_there f g block body v e h) ∙ block_good.1 in
      let place : 16 + length block + length body - (16 + length block) ≡ length body = omega arith in
      let room : 16 + length block - 16 ≡ length block = omega arith in
      ap (λ (l : List ℕ). read_batch l signature) a.split ∙ body_read (all f g block body v) signature front
      ∙ (rw (size, body_there f g block body v e h, complete_body body signature a.acceptable, eq-eqb total (length a.content) a.agrees, place, room))

-- `LogBatch::decode`: the same of a whole batch, and the table states where its body and its block stand.
pub batch_decoded : EachAnswer 1 batch_kinds.ps batch_kinds.r batch_reads.Post λ κs a t. let s = a.0.now in let signature = a.1.0 in
    ((t.refusal ≡ None) ↔ ((block : List ℕ) × (body : List ℕ) × (xs : List LogItem) × (rows : List EntryIndex) × (total : ℕ) × (bytes : List ℕ) × AcceptableBatch s signature block body xs rows total bytes))
    × ((block body : List ℕ) (xs : List LogItem) (rows : List EntryIndex) (total : ℕ) (bytes : List ℕ) → AcceptableBatch s signature block body xs rows total bytes
    → t ≡ table_of (record { at = 16 + length block; len = length body }) (record { at = 16; len = length block }) (accepted xs rows total (length bytes)))
unfolding table_of
batch_decoded κs a t s p =
    let buf = a.0.now in
    let signature = a.1.0 in
    let some : t.refusal ≡ None
    → (block : List ℕ) × (body : List ℕ) × (xs : List LogItem) × (rows : List EntryIndex) × (total : ℕ) × (bytes : List ℕ) × AcceptableBatch buf signature block body xs rows total bytes =
    λ z. let k = (batch_exactly buf signature).0 (rw p at z) in let h = sound_body _ signature k.3.3 in (_, _, _, _, _, h.0, batch_sound buf signature k.2 h.1) in
    ((some, λ h. ap (λ (x : LogItemBatch). x.refusal) (p ∙ batch_complete buf signature h.6)), λ block body xs rows total bytes h. p ∙ batch_complete buf signature h)
