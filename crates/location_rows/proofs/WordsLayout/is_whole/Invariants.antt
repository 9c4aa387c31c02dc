-- Each row is a location's exactly where each row that is left is.
-- Assumes nothing.
use Rattle.std.proofs.Common.{◌≡◌}
use Rattle.std.specs.Slice.Iter.{chunks_exact_rest, chunks_exact_size}
use Rattle.location_rows.specs.Words.{are_rows, location_count}
use Rattle.location_rows.proofs.WordsLayout.is_whole.Given as goal

abbrev pub invariant-loop-row : goal.invariant-loop-row
invariant-loop-row l = record {
  can : (goal.iterator-loop-row).can_next l.row-iterator;
  finite : (goal.iterator-loop-row).is_finite l.row-iterator;
  size : chunks_exact_size l.row-iterator ≡ 6;
  same : are_rows (location_count l.words) l.words ≡ are_rows (location_count (chunks_exact_rest l.row-iterator)) (chunks_exact_rest l.row-iterator);
}
