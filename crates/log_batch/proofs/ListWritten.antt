-- What the body writer's answers tell its callers: what is written is the body, and a refused body leaves the buffer as it was.
-- Assumes nothing.
use Rattle.std.proofs.Common.{◌≡◌, ℕ, ◌+◌, ◌≤◌, Bool, true, false, not, ltb, leb, List, ◌∷◌, ◌++◌, length, take, drop, Result, Ok, Err, sym, refl, ◌∙◌, arith, ltb-false, ne_eqb, le-leb, leb-true}
use borrow.Author.Tests.{not-true}
use Rattle.refusal.specs.First.{fine}
use Rattle.refusal.specs.declared.Reason.TheVariants.{OutputShort}
use Rattle.refusal.specs.declared.Refusal.{Refusal}
use Rattle.refusal.specs.Number.{refusal_of}
use Rattle.log_item.specs.Entries.{entries_of}
use Rattle.log_item.specs.declared.LogItem.{LogItem}
use Rattle.log_item.specs.Refusing.{content_refusal}
use Rattle.log_item.specs.Written.{sum_of, row_lengths, tail_refusal}
use Rattle.list_writer.specs.declared.Measured.{Measured}
use Rattle.list_writer.specs.Bytes.{list_bytes, body_bytes}
use Rattle.list_writer.specs.Refusing.{items_verdict, list_verdict}
use Rattle.list_writer.specs.Answers.{measure_of, encoded_of, laid, MeasuredWritten}
use Rattle.list_writer.proofs.Heads.{unless_fine, else_fine}
use Rattle.list_writer.proofs.Measuring.{sized_where}
use Rattle.list_writer.proofs.Bodies.{accepted, body_length}

-- Where no item is refused, the first is not, its tails fit, and the others are not refused behind it.
pub items_fine : (s : List ℕ) (checked : Bool) (x : LogItem) (xs : List LogItem) (ns : List ℕ) (used k t u : ℕ)
    → items_verdict s checked (x ∷ xs) ns used k t ≡ Ok u
    → (content_refusal s checked used (used + length ns) x.content ≡ fine) × (sum_of t (row_lengths x ns) ≤ 4294967295)
    × (items_verdict s checked xs (drop (entries_of x.content).count ns) (used + (entries_of x.content).count) (k + 1) (sum_of t (row_lengths x ns)) ≡ Ok u)
unfolding items_verdict
items_fine s checked x xs ns used k t u e =
    let a = unless_fine (content_refusal s checked used (used + length ns) x.content) k _ u e in
    let b = unless_fine (tail_refusal x ns t) k _ u a.1 in
    let c = else_fine (not (ltb 4294967295 (sum_of t (row_lengths x ns)))) _ fine b.0 in
    (a.0, ltb-false _ _ (not-true _ c.0), b.1)

-- ---- what an answer of `encode` tells

module _ (s : List ℕ) (checked : Bool) (xs : List LogItem) (ns : List ℕ) (signature : ℕ) (out : List ℕ) (at : ℕ) where
  -- The body stands at the place and all else is as it was, or it is refused and nothing is touched.
  pub data Encodes (r : Result ℕ Refusal) (later : List ℕ) : Type 0 where
    writes : {total : ℕ} → r ≡ Ok (length (body_bytes s xs ns signature)) → list_verdict s checked xs ns ≡ Ok total
        → later ≡ take at out ++ body_bytes s xs ns signature ++ drop (at + length (body_bytes s xs ns signature)) out → Encodes r later
    leaves : {x : Refusal} → r ≡ Err x → later ≡ out → Encodes r later

  pub encodes : {r : Result ℕ Refusal} {later : List ℕ} → MeasuredWritten (measure_of s checked xs ns) (body_bytes s xs ns signature) out at r later → Encodes r later
  unfolding measure_of encoded_of laid
  encodes {r} {later} w = go (measure_of s checked xs ns) refl
    where
      left : {x : Refusal} → r ≡ Err x → Encodes r later
      left e = leaves e (w.written ∙ (rw e))

      some_of : (m : Measured) → measure_of s checked xs ns ≡ Ok m → m.length ≡ 0 → ⊥
      some_of m e z = omega (arith, (sized_where (list_verdict s checked xs ns) (length (list_bytes s xs ns)) e).long)

      room : (m : Measured) → measure_of s checked xs ns ≡ Ok m → (b : Bool) → leb (at + m.length) (length out) ≡ b → Encodes r later
      room m e true h =
          let f = sized_where (list_verdict s checked xs ns) (length (list_bytes s xs ns)) e in
          let some = some_of m e in
          let k : r ≡ Ok m.length = w.answer ∙ (rw (e, ne_eqb m.length 0 some, h)) in
          let whole = body_length signature (accepted s checked xs ns m (sym e)) in
          let fit : at + length (body_bytes s xs ns signature) ≤ length out = omega (arith, leb-true (at + m.length) (length out) h) in
          writes (rw whole k) f.told (w.written ∙ (rw (k, ne_eqb m.length 0 some, le-leb _ (length out) fit)))
      room m e false h = left {x = refusal_of OutputShort 0} (w.answer ∙ (rw (e, ne_eqb m.length 0 (some_of m e), h)))

      go : (m : Result Measured Refusal) → measure_of s checked xs ns ≡ m → Encodes r later
      go (Ok m) e = room m e (leb (at + m.length) (length out)) refl
      go (Err x) e = left {x = x} (w.answer ∙ (rw e))
