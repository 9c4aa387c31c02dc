-- How a location stands in a row of six words. The layout is that of raft_log.h.
-- Assumes nothing.
use Rattle.std.specs.Prelude.{ℕ, zero, suc, ◌/◌, Bool, true, ◌&&◌, cond, Option, None, Some, leb, length, get_or, drop}
use mathlib.Core.List.{List, [], ◌∷◌, flat_map}
use Rattle.pipe_log.specs.declared.Location.{Location}
use Rattle.pipe_log.specs.declared.LogQueue.{LogQueue}

-- ---- from words to locations

-- 0 append, else rewrite; the queue of a row is at most 1
abbrev pub queue_of : ℕ → LogQueue
queue_of zero = LogQueue.Append
queue_of (suc q) = LogQueue.Rewrite

-- the row that the words begin with: whether it is a location's, which its queue alone decides, and its location if so
abbrev pub starts_well : List ℕ → Bool
starts_well words = leb (get_or words 0 0) 1

abbrev pub location_of : List ℕ → Location
location_of words =
    record {
      queue = queue_of (get_or words 0 0);
      seq = get_or words 1 0;
      offset = get_or words 2 0;
      len = get_or words 3 0;
      entry_offset = get_or words 4 0;
      entry_len = get_or words 5 0;
    }

-- the same of n rows
abbrev pub are_rows : ℕ → List ℕ → Bool
are_rows zero words = true
are_rows (suc n) words = starts_well words && are_rows n (drop 6 words)

abbrev pub locations : ℕ → List ℕ → List Location
locations zero words = []
locations (suc n) words = location_of words ∷ locations n (drop 6 words)

-- how many rows the words make up; what is left over is not looked at
abbrev pub location_count : List ℕ → ℕ
location_count words = length words / 6

-- the locations that the words are
abbrev pub located : List ℕ → List Location
located words = locations (location_count words) words

-- the rows, if each is a location's
unfoldable pub rows_of : List ℕ → Option (List Location)
rows_of words = cond (are_rows (location_count words) words) (Some (located words)) None

-- ---- from locations to words

abbrev pub queue_word : LogQueue → ℕ
queue_word LogQueue.Append = 0
queue_word LogQueue.Rewrite = 1

abbrev pub row_words : Location → List ℕ
row_words row = queue_word row.queue ∷ row.seq ∷ row.offset ∷ row.len ∷ row.entry_offset ∷ row.entry_len ∷ []

abbrev pub rows_words : List Location → List ℕ
rows_words = flat_map row_words
