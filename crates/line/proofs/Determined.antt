-- No second answer: two results, and two later contents of a lent buffer, that meet one contract are equal. A part of a text is its place and its bytes.
-- Assumes nothing.
use mathlib.Core.Path.{◌≡◌, sym, ◌∙◌}
use Rattle.words.specs.Part.{seen}
use Rattle.one_answer.specs.OneAnswer.{OneAnswer}
use Rattle.line.proofs.find.Kinds as find_kinds
use Rattle.line.proofs.find.Reads as find_reads
use Rattle.line.proofs.part.Kinds as part_kinds
use Rattle.line.proofs.part.Reads as part_reads
use Rattle.line.proofs.front.Kinds as front_kinds
use Rattle.line.proofs.front.Reads as front_reads
use Rattle.line.proofs.words_from.Kinds as words_from_kinds
use Rattle.line.proofs.words_from.Reads as words_from_reads
use Rattle.line.proofs.word.Kinds as word_kinds
use Rattle.line.proofs.word.Reads as word_reads
use Rattle.line.proofs.first_letter.Kinds as first_letter_kinds
use Rattle.line.proofs.first_letter.Reads as first_letter_reads
use Rattle.line.proofs.value.Kinds as value_kinds
use Rattle.line.proofs.value.Reads as value_reads
use Rattle.line.proofs.number.Kinds as number_kinds
use Rattle.line.proofs.number.Reads as number_reads
use Rattle.line.proofs.short.Kinds as short_kinds
use Rattle.line.proofs.short.Reads as short_reads
use Rattle.line.proofs.low.Kinds as low_kinds
use Rattle.line.proofs.low.Reads as low_reads
use Rattle.line.proofs.bytes.Kinds as bytes_kinds
use Rattle.line.proofs.bytes.Reads as bytes_reads

pub find : OneAnswer 1 find_kinds.ps find_kinds.r find_reads.Post (λ κs x y s t. x ≡ y)
find κs a x y s t p q = p ∙ sym q

pub part : OneAnswer 1 part_kinds.ps part_kinds.r part_reads.Post (λ κs x y s t. seen x ≡ seen y)
part κs a x y s t p q = p ∙ sym q

pub front : OneAnswer 1 front_kinds.ps front_kinds.r front_reads.Post (λ κs x y s t. seen x ≡ seen y)
front κs a x y s t p q = p ∙ sym q

pub words_from : OneAnswer 1 words_from_kinds.ps words_from_kinds.r words_from_reads.Post (λ κs x y s t. seen x ≡ seen y)
words_from κs a x y s t p q = p ∙ sym q

pub word : OneAnswer 1 word_kinds.ps word_kinds.r word_reads.Post (λ κs x y s t. seen x ≡ seen y)
word κs a x y s t p q = p ∙ sym q

pub first_letter : OneAnswer 1 first_letter_kinds.ps first_letter_kinds.r first_letter_reads.Post (λ κs x y s t. x ≡ y)
first_letter κs a x y s t p q = p ∙ sym q

pub value : OneAnswer 1 value_kinds.ps value_kinds.r value_reads.Post (λ κs x y s t. x ≡ y)
value κs a x y s t p q = p ∙ sym q

pub number : OneAnswer 1 number_kinds.ps number_kinds.r number_reads.Post (λ κs x y s t. x ≡ y)
number κs a x y s t p q = p ∙ sym q

pub short : OneAnswer 1 short_kinds.ps short_kinds.r short_reads.Post (λ κs x y s t. x ≡ y)
short κs a x y s t p q = p ∙ sym q

pub low : OneAnswer 0 low_kinds.ps low_kinds.r low_reads.Post (λ κs x y s t. x ≡ y)
low κs a x y s t p q = p ∙ sym q

pub bytes : OneAnswer 2 bytes_kinds.ps bytes_kinds.r bytes_reads.Post (λ κs x y s t. (x ≡ y) × (s.1.1.0.now ≡ t.1.1.0.now))
bytes κs a x y s t p q = let e : x ≡ y = p.0 ∙ sym q.0 in (e, p.1 ∙ rw e (sym q.1))
