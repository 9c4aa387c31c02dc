-- Where telling the status of an item refuses.
-- Assumes nothing.
use Rattle.std.proofs.Common.{◌≡◌, ℕ, zero, suc, ◌<◌, Bool, true, false, ◌&&◌, List, Err, refl, arith}
use Rattle.refusal.specs.declared.Reason.TheVariants.{SpanOutside, StatusUnknown}
use Rattle.log_item.specs.Prefix.{inside}
use Rattle.log_item.specs.declared.Span.{Span}
use Rattle.log_item.specs.declared.Op.{Op}
use Rattle.log_item.specs.declared.Op.TheVariants.{Put, Del}
use Rattle.log_item.specs.declared.KeyValue.{KeyValue}
use Rattle.log_item.specs.declared.LogItemContent.TheVariants as contents
use Rattle.log_item.specs.Refusing.{op_inside}
use Rattle.log_batch.specs.Status.{status_byte, status_of}

pub byte_unknown : (b : ℕ) → 2 < b → status_byte b ≡ Err StatusUnknown
byte_unknown zero h = absurd (omega arith)
byte_unknown (suc zero) h = absurd (omega arith)
byte_unknown (suc (suc zero)) h = absurd (omega arith)
byte_unknown (suc (suc (suc b))) h = refl

module _ (group : ℕ) (k : KeyValue) (s : List ℕ) where
  outside : op_inside s k.key k.op ≡ false → status_of group (contents.Kv k) s ≡ Err SpanOutside
  unfolding status_of
  outside e = rw e

  pub status_outside : inside s k.key ≡ false → status_of group (contents.Kv k) s ≡ Err SpanOutside
  status_outside e = outside (go k.op)
    where
      go : (o : Op) → op_inside s k.key o ≡ false
      go (Put v) = rw e
      go Del = e

  pub put_outside : {v : Span} → k.op ≡ Put v → inside s v ≡ false → status_of group (contents.Kv k) s ≡ Err SpanOutside
  put_outside {v} o e = outside (rw o (and-false (inside s k.key) e))
    where
      and-false : (a : Bool) {b : Bool} → b ≡ false → (a && b) ≡ false
      and-false true e = e
      and-false false e = refl
