-- The rewrite and the fetch on words come to those of the locations that the rows are.
-- Assumes nothing.
use mathlib.Core.Path.{◌≡◌, refl, sym, ap, ◌∙◌}
use Prim.Native.Nat.{ℕ, ◌+◌, ◌*◌, ◌≤◌}
use native.Mathlib.Nat.{div-mul-le_self, pos_of_ne-zero}
use native.Mathlib.Omega.{arith}
use mathlib.Core.Bool.{Bool, true, false, cond}
use mathlib.Core.List.{List, ◌++◌}
use lib.ListN.{length, drop}
use lib.Seq.{paste, paste-zero}
use Rattle.std.specs.Prelude.{Option, Result, Err}
use Rattle.refusal.specs.declared.Reason.{Reason}
use Rattle.refusal.specs.declared.Reason.TheVariants.{TableBroken, IncomingBroken}
use Rattle.pipe_log.specs.declared.Location.{Location}
use Rattle.location_rules.specs.declared.Table.{Table}
use Rattle.location_rules.specs.declared.Rewritten.{Rewritten}
use Rattle.memtable.specs.Table.{well_formed}
use Rattle.location_rules.specs.Decisions.{outcome, answered, fetched}
use Rattle.location_rules.specs.Row.{stop_of}
use Rattle.memtable.specs.Rewriting.{start_place, start_from, rewrite_in, rewrite_of, rows_after}
use Rattle.memtable.specs.Fetching.{fetch_in, fetch_of}
use Rattle.memtable.proofs.RunLaws.{run_take_le}
use Rattle.memtable.proofs.Outcomes.{kept, done, overlap, run, Outcomes, outcomes, run_in_rows}
use Rattle.location_rows.specs.Words.{are_rows, location_count, rows_of, rows_words, located}
use Rattle.location_rows.specs.Answers.{rewrite_rows, rows_afterwards, RowsRewritten, fetch_words}
use Rattle.location_rows.proofs.Rows.{located_length, pasted}
use Rattle.location_rows.proofs.Theorems.{words_again}

-- whether each row is a location's
abbrev whole : List ℕ → Bool
whole words = are_rows (location_count words) words

pub fetch_is : (words : List ℕ) (t : Table) (gate : ℕ) → fetch_in (whole words) (located words) t gate ≡ fetch_words words t gate
unfolding fetch_in fetch_words fetch_of fetched rows_of
fetch_is words t gate = told (whole words) refl
  where
    told : (b : Bool) → whole words ≡ b → fetch_in (whole words) (located words) t gate ≡ fetch_words words t gate
    told true h = rw h refl
    told false h = rw h refl

module _ (words : List ℕ) (t : Table) (incoming : List ℕ) (first : ℕ) (gate : Option ℕ) where
  abbrev place : ℕ
  place = start_place t first

  abbrev from : ℕ
  from = start_from t first

  -- all rows are locations'
  module _ (h : whole words ≡ true) (i : whole incoming ≡ true) where
    rows_pasted : (r : Rewritten) → Outcomes (located words) t (located incoming) first gate r
        → paste words (place * 6) (drop (from * 6) incoming) (r.replaced * 6) ≡ rows_words (paste (located words) place (drop from (located incoming)) r.replaced) ++ drop (length (located words) * 6) words
    rows_pasted _ kept =
        sym (paste-zero words (place * 6) (drop (from * 6) incoming)) ∙ sym (words_again words h)
        ∙ ap (λ (n : ℕ). rows_words (located words) ++ drop (n * 6) words) (sym (located_length words))
        ∙ ap (λ (v : List Location). rows_words v ++ drop (length (located words) * 6) words) (paste-zero (located words) place (drop from (located incoming)))
    rows_pasted _ (done g k o l e) =
        pasted (location_count words) (location_count incoming) words incoming place from moved (div-mul-le_self (length words) 6) (div-mul-le_self (length incoming) 6) h i in_rows in_incoming
        ∙ ap (λ (n : ℕ). rows_words (paste (located words) place (drop from (located incoming)) moved) ++ drop (n * 6) words) (sym (located_length words))
      where
        moved : ℕ
        moved = run (located words) t (located incoming) first gate

        in_rows : place + moved ≤ location_count words
        in_rows = omega (arith, run_in_rows (located words) t (located incoming) first gate o, located_length words)

        in_incoming : from + moved ≤ location_count incoming
        in_incoming = omega (arith, pos_of_ne-zero o, run_take_le (stop_of gate) (overlap (located words) t (located incoming) first gate) (drop place (located words)), located_length incoming)

  answer_is : rewrite_in (whole words) (located words) t (whole incoming) (located incoming) first gate ≡ rewrite_rows (rows_of words) t (rows_of incoming) first gate
  unfolding rewrite_in rewrite_of answered rows_of
  answer_is = told (whole words) (whole incoming) refl refl
    where
      told : (b c : Bool) → whole words ≡ b → whole incoming ≡ c
          → rewrite_in (whole words) (located words) t (whole incoming) (located incoming) first gate ≡ rewrite_rows (rows_of words) t (rows_of incoming) first gate
      told false c h i = rw h refl
      told true false h i = rw (h, i) refl
      told true true h i = rw (h, i) refl

  -- the words once so many rows are replaced
  abbrev put : Result Rewritten Reason → List ℕ
  put r = paste words (place * 6) (drop (from * 6) incoming) ((outcome r t.count).replaced * 6)

  after_is : put (rewrite_rows (rows_of words) t (rows_of incoming) first gate) ≡ rows_afterwards (rows_of words) t (rows_of incoming) first gate words
  unfolding rows_of rows_after
  after_is = told (whole words) (whole incoming) refl refl
    where
      same : words ≡ paste words (place * 6) (drop (from * 6) incoming) 0
      same = paste-zero words (place * 6) (drop (from * 6) incoming)

      refused : (b : Bool) → put (cond b (Err IncomingBroken) (Err TableBroken)) ≡ words
      refused true = sym same
      refused false = sym same

      told : (b c : Bool) → whole words ≡ b → whole incoming ≡ c → put (rewrite_rows (rows_of words) t (rows_of incoming) first gate) ≡ rows_afterwards (rows_of words) t (rows_of incoming) first gate words
      told false c h i = rw h (sym same)
      told true false h i = rw (h, i) (refused (well_formed (located words) t))
      told true true h i = rw (h, i) (rows_pasted h i _ (outcomes (located words) t (located incoming) first gate))

  pub rewritten : (r : Result Rewritten Reason) (later : List ℕ) → r ≡ rewrite_in (whole words) (located words) t (whole incoming) (located incoming) first gate → later ≡ put r → RowsRewritten words t incoming first gate r later
  rewritten r later e f = record { answer = e ∙ answer_is; after = f ∙ ap put (e ∙ answer_is) ∙ after_is }
