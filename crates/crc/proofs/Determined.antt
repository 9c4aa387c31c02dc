-- No second answer: two results that meet `crc32`'s contract are equal.
-- Assumes nothing.
use mathlib.Core.Path.{◌≡◌, sym, ◌∙◌}
use Rattle.one_answer.specs.OneAnswer.{OneAnswer}
use Rattle.crc.proofs.crc32.Kinds as kinds
use Rattle.crc.proofs.crc32.Reads as reads

pub crc32 : OneAnswer 1 kinds.ps kinds.r reads.Post (λ κs x y s t. x ≡ y)
crc32 κs a x y s t p q = p ∙ sym q
