-- Where the checks of an entry's row against its block refuse.
-- Assumes nothing.
use Rattle.std.proofs.Common.{◌≡◌, ℕ, ◌+◌, ◌<◌, ◌≤◌, List, length, Ok, Err, eqb, leb, eq-eqb, ne_eqb, arith, leb-true}
use borrow.Author.Tests.{lt-leb}
use Rattle.refusal.specs.First.{Checked, fine, ◌>>=◌}
use Rattle.refusal.specs.declared.Reason.{Reason}
use Rattle.log_item.proofs.Refusals.{passed}
use Rattle.pipe_log.specs.declared.Location.{Location}
use Rattle.refusal.specs.declared.Reason.TheVariants.{BlockDiffers, SpanOutside}
use Rattle.log_batch.specs.Seal.{block_check, sealed_length}
use Rattle.log_batch.specs.View.{entry_check, view_check}

module _ (block : List ℕ) (long offset len : ℕ) where
  pub entry_differs : (length block ≡ long → ⊥) → entry_check long offset len block ≡ Err BlockDiffers
  unfolding entry_check
  entry_differs h = rw (ne_eqb _ _ h)

  module _ (same : length block ≡ long) where
    pub entry_outside : block_check block ≡ fine → sealed_length block < offset + len → entry_check long offset len block ≡ Err SpanOutside
    unfolding entry_check
    entry_outside e h = rw (eq-eqb _ _ same, e, lt-leb _ _ h)

behind : (c : Checked Reason) {v : Checked Reason} → (◌>>=◌ c λ u. v) ≡ fine → v ≡ fine
behind (Ok u) h = h
behind (Err r) h = cc

module _ (row : Location) (block : List ℕ) where
  -- An entry that passes every check lies in the block.
  pub entry_lies : view_check row block ≡ fine → row.entry_offset + row.entry_len ≤ length block
  unfolding entry_check
  entry_lies e =
      let same = passed (eqb (length block) row.len) _ e in
      let fits = passed (leb (row.entry_offset + row.entry_len) (sealed_length block)) _ (behind (block_check block) same.1) in
      omega (arith, leb-true (row.entry_offset + row.entry_len) (sealed_length block) fits.0)
