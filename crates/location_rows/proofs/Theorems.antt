-- What is promised of the rewrite on rows of words besides its contract.
-- Assumes nothing.
use mathlib.Core.Path.{◌≡◌, refl, ap, ◌∙◌}
use Prim.Native.Nat.{ℕ, ◌*◌}
use native.Mathlib.Nat.{div-mul-le_self}
use native.Mathlib.Omega.{arith}
use mathlib.Core.Bool.{Bool, true, false, cond}
use mathlib.Core.List.{List, ◌++◌}
use lib.Dec.{leb}
use lib.ListN.{length, drop, take-append-drop}
use Rattle.std.specs.Prelude.{Option, None, Some, Err}
use Rattle.refusal.specs.declared.Reason.{Reason}
use Rattle.refusal.specs.declared.Reason.TheVariants.{TableBroken, IncomingBroken}
use Rattle.pipe_log.specs.declared.Location.{Location}
use Rattle.pipe_log.specs.declared.LogQueue.{LogQueue}
use Rattle.location_rules.specs.declared.Table.{Table}
use Rattle.memtable.specs.Table.{well_formed}
use Rattle.location_rules.specs.Decisions.{outcome, Kept}
use Rattle.memtable.proofs.Theorems.{refused_kept}
use Rattle.location_rows.specs.Words.{starts_well, location_of, are_rows, location_count, rows_of, queue_of, queue_word, row_words, rows_words, located}
use Rattle.location_rows.specs.Answers.{rewrite_rows, rows_afterwards}
use Rattle.location_rows.proofs.Rows.{rows_back, located_length}

queue_again : (q : LogQueue) → (leb (queue_word q) 1 ≡ true) × (queue_of (queue_word q) ≡ q)
queue_again LogQueue.Append = (refl, refl)
queue_again LogQueue.Rewrite = (refl, refl)

-- A location's words are a row, and the row is that location.
pub row_again : (x : Location) → (starts_well (row_words x) ≡ true) × (location_of (row_words x) ≡ x)
row_again x = (
  (queue_again x.queue).0,
  ap
      (λ (q : LogQueue).
      record { queue = q; seq = x.seq; offset = x.offset; len = x.len; entry_offset = x.entry_offset; entry_len = x.entry_len })
      (queue_again x.queue).1,
)

-- The words of the rows, and then what does not make up a row, are the words.
pub words_again : (words : List ℕ) → are_rows (location_count words) words ≡ true → rows_words (located words) ++ drop (location_count words * 6) words ≡ words
words_again words h =
    ap (λ (v : List ℕ). v ++ drop (location_count words * 6) words) (rows_back (location_count words) words (div-mul-le_self (length words) 6) h) ∙ take-append-drop (location_count words * 6) words

located_rows : (words : List ℕ) (xs : List Location) → rows_of words ≡ Some xs → rows_words xs ++ drop (length xs * 6) words ≡ words
unfolding rows_of
located_rows words xs e = told (are_rows (location_count words) words) refl e
  where
    told : (b : Bool) → are_rows (location_count words) words ≡ b → cond b (Some (located words)) None ≡ Some xs → rows_words xs ++ drop (length xs * 6) words ≡ words
    told true h f =
        let same : xs ≡ located words = cc in
        rw (same, located_length words) (words_again words h)
    told false h f =
        let z : ◌≡◌ {A = ℕ} 0 1 = cc in
        absurd (omega arith)

module _ (words : List ℕ) (t : Table) (first : ℕ) (gate : Option ℕ) where
  kept : (a b : Option (List Location)) (e : Reason) → rows_of words ≡ a → rewrite_rows a t b first gate ≡ Err e → Kept words t (outcome (rewrite_rows a t b first gate) t.count) (rows_afterwards a t b first gate words)
  kept None b e z f = (refl, (refl, refl))
  kept (Some xs) None e z f = told (well_formed xs t)
    where
      told : (c : Bool) → Kept words t (outcome (cond c (Err IncomingBroken) (Err TableBroken)) t.count) words
      told true = (refl, (refl, refl))
      told false = (refl, (refl, refl))
  kept (Some xs) (Some ys) e z f =
      let k = refused_kept xs t ys first gate e f in
      (k.0, (k.1.0, ap (λ (v : List Location). rows_words v ++ drop (length xs * 6) words) k.1.1 ∙ located_rows words xs z))

  -- A refused rewrite changes no word, replaces nothing and leaves the old count.
  pub refused_words : (incoming : List ℕ) (e : Reason) → rewrite_rows (rows_of words) t (rows_of incoming) first gate ≡ Err e
      → Kept words t (outcome (rewrite_rows (rows_of words) t (rows_of incoming) first gate) t.count) (rows_afterwards (rows_of words) t (rows_of incoming) first gate words)
  refused_words incoming e = kept (rows_of words) (rows_of incoming) e refl
