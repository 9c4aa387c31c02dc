-- Rows of words and their locations: the parts of one are the parts of the other, and the words come back.
-- Assumes nothing.
use mathlib.Core.Path.{◌≡◌, refl, sym, ap, ◌∙◌}
use Prim.Native.Nat.{ℕ, zero, suc, ◌+◌, ◌-◌, ◌*◌, ◌<◌, ◌≤◌}
use native.Mathlib.Nat.{div-mul-le_self, le_of_suc-le-suc, not-suc-le-zero, sub-zero, suc-sub-suc}
use native.Mathlib.Omega.{arith}
use mathlib.Core.Bool.{true, and-eq-true_iff}
use mathlib.Core.List.{List, [], ◌∷◌, ◌++◌, append_assoc, flat_map}
use lib.ListN.{length, get_or, take, drop, length-drop, take-append-drop}
use lib.Seq.{drop-drop, take-add, paste}
use borrow.Author.Tests.{leb-true}
use Rattle.pipe_log.specs.declared.Location.{Location}
use Rattle.location_rows.specs.Words.{queue_of, starts_well, location_of, are_rows, locations, location_count, located, queue_word, row_words, rows_words}

pub locations_length : (n : ℕ) (words : List ℕ) → length (locations n words) ≡ n
locations_length zero words = refl
locations_length (suc n) words = ap suc (locations_length n (drop 6 words))

pub located_length : (words : List ℕ) → length (located words) ≡ location_count words
located_length words = locations_length (location_count words) words

-- so many rows are six times so many words
pub rows_room : (words : List ℕ) (n : ℕ) → n ≤ length (located words) → n * 6 ≤ length words
rows_room words n l = omega (arith, l, located_length words, div-mul-le_self (length words) 6)

-- the words past one row more
past : (k : ℕ) (words : List ℕ) → drop (k * 6) (drop 6 words) ≡ drop (suc k * 6) words
past k words = drop-drop (k * 6) 6 words ∙ ap (λ (m : ℕ). drop m words) sum
  where
    sum : 6 + k * 6 ≡ suc k * 6
    sum = omega arith

pub location_at : (n i : ℕ) (words : List ℕ) (other : Location) → i < n → get_or (locations n words) i other ≡ location_of (drop (i * 6) words)
location_at zero i words other l = absurd (not-suc-le-zero l)
location_at (suc n) zero words other l = refl
location_at (suc n) (suc i) words other l = location_at n i (drop 6 words) other (le_of_suc-le-suc l) ∙ ap location_of (past i words)

locations_take : (k n : ℕ) (words : List ℕ) → k ≤ n → take k (locations n words) ≡ locations k words
locations_take zero n words l = refl
locations_take (suc k) zero words l = absurd (not-suc-le-zero l)
locations_take (suc k) (suc n) words l = ap (λ (rows : List Location). location_of words ∷ rows) (locations_take k n (drop 6 words) (le_of_suc-le-suc l))

locations_drop : (k n : ℕ) (words : List ℕ) → k ≤ n → drop k (locations n words) ≡ locations (n - k) (drop (k * 6) words)
locations_drop zero n words l = ap (λ (m : ℕ). locations m words) (sym (sub-zero n))
locations_drop (suc k) zero words l = absurd (not-suc-le-zero l)
locations_drop (suc k) (suc n) words l =
    locations_drop k n (drop 6 words) (le_of_suc-le-suc l) ∙ ap (λ (v : List ℕ). locations (n - k) v) (past k words) ∙ ap (λ (m : ℕ). locations m (drop (suc k * 6) words)) (sym (suc-sub-suc n k))

rows_take : (k n : ℕ) (words : List ℕ) → k ≤ n → are_rows n words ≡ true → are_rows k words ≡ true
rows_take zero n words l e = refl
rows_take (suc k) zero words l e = absurd (not-suc-le-zero l)
rows_take (suc k) (suc n) words l e =
    let h = (and-eq-true_iff (starts_well words) (are_rows n (drop 6 words))).0 e in
    rw h.0 (rows_take k n (drop 6 words) (le_of_suc-le-suc l) h.1)

rows_drop : (k n : ℕ) (words : List ℕ) → k ≤ n → are_rows n words ≡ true → are_rows (n - k) (drop (k * 6) words) ≡ true
rows_drop zero n words l e = ap (λ (m : ℕ). are_rows m words) (sub-zero n) ∙ e
rows_drop (suc k) zero words l e = absurd (not-suc-le-zero l)
rows_drop (suc k) (suc n) words l e =
    ap (λ (m : ℕ). are_rows m (drop (suc k * 6) words)) (suc-sub-suc n k) ∙ ap (λ (v : List ℕ). are_rows (n - k) v) (sym (past k words))
    ∙ rows_drop k n (drop 6 words) (le_of_suc-le-suc l) ((and-eq-true_iff (starts_well words) (are_rows n (drop 6 words))).0 e).1

-- ---- the words come back

six : (words : List ℕ) → 6 ≤ length words
    → take 6 words ≡ get_or words 0 0 ∷ get_or words 1 0 ∷ get_or words 2 0 ∷ get_or words 3 0 ∷ get_or words 4 0 ∷ get_or words 5 0 ∷ []
six [] l = absurd (omega arith)
six (a ∷ []) l = absurd (omega arith)
six (a ∷ b ∷ []) l = absurd (omega arith)
six (a ∷ b ∷ c ∷ []) l = absurd (omega arith)
six (a ∷ b ∷ c ∷ d ∷ []) l = absurd (omega arith)
six (a ∷ b ∷ c ∷ d ∷ e ∷ []) l = absurd (omega arith)
six (a ∷ b ∷ c ∷ d ∷ e ∷ f ∷ more) l = refl

queue_back : (q : ℕ) → q ≤ 1 → queue_word (queue_of q) ≡ q
queue_back zero l = refl
queue_back (suc zero) l = refl
queue_back (suc (suc q)) l = absurd (omega arith)

row_back : (words : List ℕ) → 6 ≤ length words → starts_well words ≡ true → row_words (location_of words) ≡ take 6 words
row_back words l e =
    rw (queue_back (get_or words 0 0) (leb-true (get_or words 0 0) 1 e))
    (sym (six words l))

pub rows_back : (n : ℕ) (words : List ℕ) → n * 6 ≤ length words → are_rows n words ≡ true → rows_words (locations n words) ≡ take (n * 6) words
unfolding flat_map
rows_back zero words l e = refl
rows_back (suc n) words l e =
    let h = (and-eq-true_iff (starts_well words) (are_rows n (drop 6 words))).0 e in
    let first : row_words (location_of words) ≡ take 6 words = row_back words (omega arith) h.0 in
    let more : rows_words (locations n (drop 6 words)) ≡ take (n * 6) (drop 6 words) = rows_back n (drop 6 words) (omega (arith, length-drop 6 words)) h.1 in
    let sum : suc n * 6 ≡ 6 + n * 6 = omega arith in
    ap (λ (v : List ℕ). v ++ rows_words (locations n (drop 6 words))) first ∙ ap (λ (v : List ℕ). take 6 words ++ v) more ∙ sym (take-add 6 (n * 6) words)
    ∙ ap (λ (m : ℕ). take m words) (sym sum)

rows_join : (xs ys : List Location) → rows_words (xs ++ ys) ≡ rows_words xs ++ rows_words ys
unfolding flat_map
rows_join [] ys = refl
rows_join (x ∷ xs) ys = ap (λ (v : List ℕ). row_words x ++ v) (rows_join xs ys) ∙ sym (append_assoc (row_words x) (rows_words xs) (rows_words ys))

-- ---- rows pasted are words pasted

module _ (n m : ℕ) (words incoming : List ℕ) (p f k : ℕ) (own : n * 6 ≤ length words) (others : m * 6 ≤ length incoming) (good : are_rows n words ≡ true)
    (ready : are_rows m incoming ≡ true) (in_rows : p + k ≤ n) (in-incoming : f + k ≤ m) where
  front : rows_words (take p (locations n words)) ≡ take (p * 6) words
  front = ap rows_words (locations_take p n words (omega arith)) ∙ rows_back p words (omega arith) (rows_take p n words (omega arith) good)

  middle : rows_words (take k (drop f (locations m incoming))) ≡ take (k * 6) (drop (f * 6) incoming)
  middle =
      ap (λ (v : List Location). rows_words (take k v)) (locations_drop f m incoming (omega arith))
      ∙ ap rows_words (locations_take k (m - f) (drop (f * 6) incoming) (omega arith))
      ∙ rows_back k (drop (f * 6) incoming) (omega (arith, length-drop (f * 6) incoming)) (rows_take k (m - f) (drop (f * 6) incoming) (omega arith) (rows_drop f m incoming (omega arith) ready))

  end : rows_words (drop (p + k) (locations n words)) ++ drop (n * 6) words ≡ drop (p * 6 + k * 6) words
  end =
      ap (λ (v : List ℕ). v ++ drop (n * 6) words) back
      ∙ ap (λ (v : List ℕ). take ((n - (p + k)) * 6) (drop ((p + k) * 6) words) ++ v) (ap (λ (j : ℕ). drop j words) (sym reached) ∙ sym (drop-drop ((n - (p + k)) * 6) ((p + k) * 6) words))
      ∙ take-append-drop ((n - (p + k)) * 6) (drop ((p + k) * 6) words)
      ∙ ap (λ (j : ℕ). drop j words) sum
    where
      sum : (p + k) * 6 ≡ p * 6 + k * 6
      sum = omega arith

      reached : (p + k) * 6 + (n - (p + k)) * 6 ≡ n * 6
      reached = omega arith

      back : rows_words (drop (p + k) (locations n words)) ≡ take ((n - (p + k)) * 6) (drop ((p + k) * 6) words)
      back =
          ap rows_words (locations_drop (p + k) n words in_rows)
          ∙ rows_back (n - (p + k)) (drop ((p + k) * 6) words) (omega (arith, length-drop ((p + k) * 6) words)) (rows_drop (p + k) n words in_rows good)

  pub pasted : paste words (p * 6) (drop (f * 6) incoming) (k * 6) ≡ rows_words (paste (locations n words) p (drop f (locations m incoming)) k) ++ drop (n * 6) words
  pasted = sym (ap (λ (v : List ℕ). v ++ drop (n * 6) words) (rows_join (a ++ b) c ∙ ap (λ (v : List ℕ). v ++ rows_words c) (rows_join a b)) ∙ append_assoc (rows_words a ++ rows_words b) (rows_words c) (drop (n * 6) words) ∙ same)
    where
      a : List Location
      a = take p (locations n words)

      b : List Location
      b = take k (drop f (locations m incoming))

      c : List Location
      c = drop (p + k) (locations n words)

      same : (rows_words a ++ rows_words b) ++ (rows_words c ++ drop (n * 6) words) ≡ paste words (p * 6) (drop (f * 6) incoming) (k * 6)
      same = rw (front, middle, end) refl
