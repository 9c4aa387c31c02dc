-- The body: what its measure says of it, the footer behind the list, and the answer of each way out of `encode`.
-- Assumes nothing.
use Prim.Native.Nat.{ℕ, ◌+◌, ◌-◌, ◌≤◌, ◌<◌}
use mathlib.Core.Path.{◌≡◌, refl, sym, ap, ◌∙◌}
use mathlib.Core.Bool.{Bool}
use mathlib.Core.List.{List}
use native.Mathlib.Omega.{arith}
use lib.Dec.{leb}
use lib.Bits.{bit_xor}
use lib.ListN.{length, take, drop, length-append}
use lib.Seq.{sets-eq, take_at}
use borrow.Author.Tests.{ne_eqb, le-leb, lt-leb, leb-true}
use Rattle.std.specs.Prelude.{Result, Ok, Err}
use Rattle.refusal.specs.declared.Reason.TheVariants.{OutputShort}
use Rattle.refusal.specs.declared.Refusal.{Refusal}
use Rattle.codec.specs.Shortest.{shortest}
use Rattle.words.specs.Word.{little_endian_bytes}
use Rattle.words.specs.Write.{next_at, placed}
use Rattle.words.proofs.Words.{length_little}
use Rattle.crc.specs.Crc.{crc_of}
use Rattle.log_item.specs.declared.LogItem.{LogItem}
use Rattle.log_item.specs.Private.{Stored}
use Rattle.log_item.proofs.Stores.{stored_at, stored_stands, stored_then, stored_length}
use Rattle.list_writer.specs.declared.Measured.{Measured}
use Rattle.list_writer.specs.Bytes.{items_bytes, list_bytes, footed, body_bytes}
use Rattle.list_writer.specs.Refusing.{refused, items_verdict, list_verdict}
use Rattle.list_writer.specs.Answers.{measure_of, encoded_in, encoded_of, laid, MeasuredWritten}
use Rattle.list_writer.specs.Pieces.{footer_of, footer_next, footer_placed}
use Rattle.list_writer.proofs.Pieces.{footer_stored}
use Rattle.list_writer.proofs.Heads.{else_fine}
use Rattle.list_writer.proofs.Measuring.{sized_where, list_fine}
use Rattle.list_writer.proofs.Writing.{Writing, writing_start, writing_end}

-- ---- what the measure tells

pub record Accepted (s : List ℕ) (checked : Bool) (xs : List LogItem) (ns : List ℕ) (long : ℕ) : Type 0 where
  pub total : ℕ
  pub few : length xs ≤ 256
  pub told : items_verdict s checked xs ns 0 0 0 ≡ Ok total
  pub whole : long ≡ length (shortest (length xs)) + length (items_bytes s xs ns 0) + 4

pub accepted : (s : List ℕ) (checked : Bool) (xs : List LogItem) (ns : List ℕ) (m : Measured) → Ok m ≡ measure_of s checked xs ns → Accepted s checked xs ns m.length
unfolding measure_of list_bytes
accepted s checked xs ns m e =
    let k = sized_where (list_verdict s checked xs ns) (length (list_bytes s xs ns)) {m = m} (sym e) in
    let l = list_fine s checked xs ns k.told in
    record {
      total = m.total;
      few = l.0;
      told = l.1;
      whole = omega (arith, k.long, length-append (shortest (length xs)) (items_bytes s xs ns 0));
    }

-- ---- the footer

-- What was stored from a place on stands there.
stands : {out mid bs : List ℕ} {at next : ℕ} → at + length bs ≤ length out → Stored out at bs next mid → take (next - at) (drop at mid) ≡ bs
stands {out} {mid} {bs} {at} {next} h w =
    let a = stored_stands (record { fits = h }) w in
    rw a.stand (take_at bs (drop next mid) (next - at) (omega (arith, w.after)))

with_footer : (signature : ℕ) {out mid later bs : List ℕ} {at next last : ℕ} → at + length bs ≤ length out → Stored out at bs next mid
    → Stored mid next (footer_of signature at next mid) last later
    → Stored out at (footed signature bs) last later
unfolding footed
with_footer signature h w v = stored_then w (rw (stands h w) at v)

footed_length : (signature : ℕ) (bs : List ℕ) → length (footed signature bs) ≡ length bs + 4
unfolding footed
footed_length signature bs =
    length-append bs (little_endian_bytes 4 (bit_xor (crc_of bs) signature)) ∙ ap (λ (n : ℕ). length bs + n) (length_little 4 (bit_xor (crc_of bs) signature))

-- ---- count, items, footer, one after the other

module _ {s : List ℕ} {checked : Bool} {xs : List LogItem} {ns : List ℕ} {long : ℕ} (a : Accepted s checked xs ns long) {out : List ℕ} {at : ℕ}
    (fit : at + long ≤ length out) where
  pub writing_begins : {n next : ℕ} {mid : List ℕ} → length xs ≡ n → (next ≡ next_at out at (shortest n)) × (mid ≡ placed out at (shortest n))
      → Writing s xs ns out at mid next 0 0 0 0
  writing_begins {n} {next} {mid} size wrote =
      let same : length (shortest n) ≡ length (shortest (length xs)) = ap (λ (k : ℕ). length (shortest k)) (sym size) in
      let p : Stored out at (shortest (length xs)) next mid = rw size (stored_at (record { fits = omega (arith, fit, a.whole, same) }) wrote) in
      writing_start s checked xs ns a.total a.told p (omega (arith, fit, a.whole, p.after, stored_length p))

  module _ {later : List ℕ} {next i j tails t : ℕ} (w : Writing s xs ns out at later next i j tails t) (z : tails ≤ 0) (h : length xs ≤ i) where
    pub body_stored : (signature : ℕ) {last : ℕ} {final : List ℕ}
        → (last ≡ footer_next signature at next later) × (final ≡ footer_placed signature at next later) → Stored out at (body_bytes s xs ns signature) last final
    unfolding list_bytes
    body_stored signature f =
        let e = writing_end w z h in
        with_footer signature
        (omega (arith, fit, a.whole, length-append (shortest (length xs)) (items_bytes s xs ns 0))) e.0
        (footer_stored signature at next (omega (arith, e.0.after)) e.1 f)

pub body_length : {s : List ℕ} {checked : Bool} {xs : List LogItem} {ns : List ℕ} {long : ℕ} (signature : ℕ) → Accepted s checked xs ns long
    → length (body_bytes s xs ns signature) ≡ long
unfolding list_bytes
body_length {s} {checked} {xs} {ns} signature a =
    omega (arith, footed_length signature (list_bytes s xs ns), length-append (shortest (length xs)) (items_bytes s xs ns 0), a.whole)

-- ---- the answer

module _ (m : Measured) (all at : ℕ) (some : 0 < m.length) where
  pub placing_21 : all < at + m.length → refused OutputShort 0 ≡ encoded_in (Ok m) all at
  placing_21 l = rw (ne_eqb m.length 0 (λ z. omega arith), lt-leb (at + m.length) all l)

  pub placing_fits : at + m.length ≤ all → Ok m.length ≡ encoded_in (Ok m) all at
  placing_fits l = rw (ne_eqb m.length 0 (λ z. omega arith), le-leb (at + m.length) all l)

  -- What is not refused fits.
  pub placing_told : {n : ℕ} → Ok n ≡ encoded_in (Ok m) all at → (at + m.length ≤ all) × (n ≡ m.length)
  placing_told {n} e =
      let f = rw (ne_eqb m.length 0 (λ z. omega arith)) at e in
      let k = else_fine (leb (at + m.length) all) _ _ (sym f) in
      (leb-true _ _ k.0, cc)

-- ---- the ways out

module _ (out : List ℕ) (at : ℕ) (bs : List ℕ) {e : Result Measured Refusal} where
  pub refused_laid : {r : Refusal} → e ≡ Err r → MeasuredWritten e bs out at (Err r) out
  unfolding laid encoded_of
  refused_laid h = rw h (record { answer = refl; written = refl })

  module _ {m : Measured} (h : e ≡ Ok m) where
    pub short_laid : {r : Refusal} → Err r ≡ encoded_in (Ok m) (length out) at → MeasuredWritten e bs out at (Err r) out
    unfolding laid encoded_of
    short_laid p = rw h (record { answer = p; written = refl })

    pub all_laid : {n next : ℕ} {later : List ℕ} → Ok n ≡ encoded_in (Ok m) (length out) at → length bs ≡ m.length → 0 < length bs
        → Stored out at bs next later → MeasuredWritten e bs out at (Ok n) later
    unfolding laid encoded_of
    all_laid {n} {next} {later} p k some w =
        let f = placing_told m (length out) at (omega arith) p in
        let fit : at + length bs ≤ length out = omega (arith, f.0) in
        rw h
        (record {
          answer = p;
          written = w.stored ∙ sets-eq bs out at fit ∙ (rw (ne_eqb n 0 (λ z. omega (arith, f.1)), le-leb (at + length bs) (length out) fit));
        })
