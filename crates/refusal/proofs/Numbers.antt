-- Each reason has a number of its own, which is never 0.
-- Assumes nothing.
use Prim.Native.Nat.{ℕ}
use mathlib.Core.Path.{◌≡◌, refl, sym, ap, ◌∙◌}
use mathlib.Core.Bool.{cond}
use lib.Dec.{eqb}
use native.Mathlib.Omega.{arith}
use Rattle.refusal.specs.declared.Reason.{Reason}
use Rattle.refusal.specs.declared.Reason.TheVariants.{HeaderShort, CompressionUnknown, OffsetAboveLength, OffsetBelowHeader, NoContent, ChecksumWrong, NumberBroken, NotShortest, ItemsTooMany, ItemTypeUnknown, CommandUnknown, OpUnknown, SpanOutside, EntriesTooMany, TailFalls, TailTooLarge, IndexTooLarge, BatchShort, Compressed, BlockDiffers, OutputShort, OutputTooLong, KeyInternal, OverlapAfter, OverlapBefore, TableBroken, IncomingBroken, StatusUnknown}
use Rattle.refusal.specs.Number.{number_of}

of_number : ℕ → Reason
of_number n =
    cond (eqb n 1) HeaderShort (
    cond (eqb n 2) CompressionUnknown (
    cond (eqb n 3) OffsetAboveLength (
    cond (eqb n 4) OffsetBelowHeader (
    cond (eqb n 5) NoContent (
    cond (eqb n 6) ChecksumWrong (
    cond (eqb n 7) NumberBroken (
    cond (eqb n 8) NotShortest (
    cond (eqb n 9) ItemsTooMany (
    cond (eqb n 10) ItemTypeUnknown (
    cond (eqb n 11) CommandUnknown (
    cond (eqb n 12) OpUnknown (
    cond (eqb n 13) SpanOutside (
    cond (eqb n 14) EntriesTooMany (
    cond (eqb n 15) TailFalls (
    cond (eqb n 16) TailTooLarge (
    cond (eqb n 17) IndexTooLarge (
    cond (eqb n 18) BatchShort (
    cond (eqb n 19) Compressed (
    cond (eqb n 20) BlockDiffers (
    cond (eqb n 21) OutputShort (
    cond (eqb n 22) OutputTooLong (
    cond (eqb n 23) KeyInternal (
    cond (eqb n 24) OverlapAfter (
    cond (eqb n 25) OverlapBefore (
    cond (eqb n 26) TableBroken (
    cond (eqb n 27) IncomingBroken (
    StatusUnknown)))))))))))))))))))))))))))

back : (r : Reason) → of_number (number_of r) ≡ r
unfolding of_number
back HeaderShort = refl
back CompressionUnknown = refl
back OffsetAboveLength = refl
back OffsetBelowHeader = refl
back NoContent = refl
back ChecksumWrong = refl
back NumberBroken = refl
back NotShortest = refl
back ItemsTooMany = refl
back ItemTypeUnknown = refl
back CommandUnknown = refl
back OpUnknown = refl
back SpanOutside = refl
back EntriesTooMany = refl
back TailFalls = refl
back TailTooLarge = refl
back IndexTooLarge = refl
back BatchShort = refl
back Compressed = refl
back BlockDiffers = refl
back OutputShort = refl
back OutputTooLong = refl
back KeyInternal = refl
back OverlapAfter = refl
back OverlapBefore = refl
back TableBroken = refl
back IncomingBroken = refl
back StatusUnknown = refl

-- Two reasons of one number are one.
pub one_number : (r s : Reason) → number_of r ≡ number_of s → r ≡ s
one_number r s e = sym (back r) ∙ ap of_number e ∙ back s

pub not_none : (r : Reason) → number_of r ≡ 0 → ⊥
not_none HeaderShort e = omega arith
not_none CompressionUnknown e = omega arith
not_none OffsetAboveLength e = omega arith
not_none OffsetBelowHeader e = omega arith
not_none NoContent e = omega arith
not_none ChecksumWrong e = omega arith
not_none NumberBroken e = omega arith
not_none NotShortest e = omega arith
not_none ItemsTooMany e = omega arith
not_none ItemTypeUnknown e = omega arith
not_none CommandUnknown e = omega arith
not_none OpUnknown e = omega arith
not_none SpanOutside e = omega arith
not_none EntriesTooMany e = omega arith
not_none TailFalls e = omega arith
not_none TailTooLarge e = omega arith
not_none IndexTooLarge e = omega arith
not_none BatchShort e = omega arith
not_none Compressed e = omega arith
not_none BlockDiffers e = omega arith
not_none OutputShort e = omega arith
not_none OutputTooLong e = omega arith
not_none KeyInternal e = omega arith
not_none OverlapAfter e = omega arith
not_none OverlapBefore e = omega arith
not_none TableBroken e = omega arith
not_none IncomingBroken e = omega arith
not_none StatusUnknown e = omega arith
