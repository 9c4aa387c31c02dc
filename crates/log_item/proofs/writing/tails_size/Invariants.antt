-- The loop of `log_item::writing::tails_size`: what is left comes to what all come to.
-- Assumes nothing.
use Rattle.std.proofs.Common.{◌≡◌, ◌<◌, ◌^◌, drop}
use Rattle.log_item.specs.Private.{tails_size}
use Rattle.log_item.proofs.writing.tails_size.Given as goal

abbrev pub invariant-loop-len : goal.invariant-loop-len
invariant-loop-len l = record {
  total : l.total < 2 ^ 32;
  size : l.size < 2 ^ 64;
  left : tails_size l.size (drop l.len-index l.lengths) l.total ≡ tails_size 0 l.lengths l.before;
}
