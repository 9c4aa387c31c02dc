-- Writing a whole batch: the body behind header and block, and what the contract then tells.
-- Assumes nothing.
use Rattle.std.proofs.Common.{◌≡◌, ℕ, ◌+◌, ◌-◌, ◌^◌, ◌<◌, ◌≤◌, Bool, List, ◌++◌, length, take, drop, Result, Ok, Err, sym, refl, ap, ◌∙◌, append_assoc, arith, length-append, length-take-le, take_at, drop_at, ne_eqb, eq-eqb, le-leb}
use lib.Seq.{sets-eq}
use Rattle.refusal.specs.declared.Refusal.{Refusal}
use Rattle.log_item.specs.declared.LogItem.{LogItem}
use Rattle.log_item.specs.Private.{Stored}
use Rattle.words.specs.Write.{placed}
use Rattle.log_item.proofs.Stores.{stored_then, stored_length, stored_same, stored_placed}
use Rattle.list_writer.specs.declared.Measured.{Measured}
use Rattle.list_writer.specs.Answers.{measure_of, encoded_of, laid, MeasuredWritten}
use Rattle.list_writer.specs.Bytes.{list_bytes, body_bytes}
use Rattle.list_writer.specs.Refusing.{list_verdict}
use Rattle.list_writer.proofs.Measuring.{sized_where}
use Rattle.list_writer.proofs.Bodies.{accepted, body_length, placing_told}
use Rattle.log_batch.specs.Front.{body_offset, front_bytes, batch_encoded, measured_length, written_length, FrontWritten}
use Rattle.log_batch.proofs.Planning.{Planned, block_small, front_length, planned}
use Rattle.log_batch.proofs.Fronts.{begun_told, begun_plan, front_stored}
use Rattle.log_batch.specs.Written.{framed, BatchWritten}

-- A body that is not refused has some bytes, as many as its measure says, and is short enough for the sums behind it.
pub record Sized (m : Result Measured Refusal) (body : List ℕ) : Type 0 where
  pub small : measured_length m ≤ 4294967295
  pub long : {b : Measured} → m ≡ Ok b → length body ≡ b.length
  pub some : {b : Measured} → m ≡ Ok b → b.length ≡ 0 → ⊥

-- A list that has a measure is not refused, and its body is not too long.
module _ (s : List ℕ) (checked : Bool) (xs : List LogItem) (ns : List ℕ) {b : Measured} (e : measure_of s checked xs ns ≡ Ok b) where
  pub verdict_of : list_verdict s checked xs ns ≡ Ok b.total
  unfolding measure_of
  verdict_of = (sized_where (list_verdict s checked xs ns) (length (list_bytes s xs ns)) e).told

  pub body_small : b.length ≤ 4294967295
  unfolding measure_of
  body_small = (sized_where (list_verdict s checked xs ns) (length (list_bytes s xs ns)) e).small

  body_some : b.length ≡ 0 → ⊥
  unfolding measure_of
  body_some z = omega (arith, (sized_where (list_verdict s checked xs ns) (length (list_bytes s xs ns)) e).long)

-- So are those of a list, for any measure that is the list's own unless it is refused.
pub own_sized : {m : Result Measured Refusal} (s : List ℕ) (checked : Bool) (xs : List LogItem) (ns : List ℕ) (signature : ℕ)
    → ((b : Measured) → m ≡ Ok b → measure_of s checked xs ns ≡ Ok b) → Sized m (body_bytes s xs ns signature)
own_sized {m} s checked xs ns signature own =
    record {
      small = go m own;
      long = λ e. body_length signature (accepted s checked xs ns _ (sym (own _ e)));
      some = λ e z. body_some s checked xs ns (own _ e) z;
    }
  where
    go : (k : Result Measured Refusal) → ((b : Measured) → k ≡ Ok b → measure_of s checked xs ns ≡ Ok b) → measured_length k ≤ 4294967295
    go (Ok b) f = body_small s checked xs ns (f b refl)
    go (Err r) f = omega arith

pub list_sized : (s : List ℕ) (checked : Bool) (xs : List LogItem) (ns : List ℕ) (signature : ℕ) → Sized (measure_of s checked xs ns) (body_bytes s xs ns signature)
list_sized s checked xs ns signature = own_sized s checked xs ns signature (λ b e. e)

-- An answer of no bytes leaves the buffer as it was.
pub nothing_laid : (r : Result ℕ Refusal) → written_length r ≡ 0 → (out bs : List ℕ) (at : ℕ) → laid r out at bs ≡ out
unfolding laid
nothing_laid (Ok n) h out bs at = rw (eq-eqb n 0 h)
nothing_laid (Err x) h out bs at = refl

module _ {m k : Result Measured Refusal} (same : m ≡ k) {body : List ℕ} (sized : Sized k body) {items : ℕ} {content out : List ℕ} {r : Result ℕ Refusal} {mid : List ℕ}
    (begun : FrontWritten m items content out r mid) where
  pub begun_small : measured_length m ≤ 4294967295
  begun_small = rw same sized.small

  answers : r ≡ batch_encoded k items content (length out)
  answers = rw (← same) (begun_told begun begun_small)

  pub batch_left : written_length r ≡ 0 → BatchWritten k items content body out r mid
  batch_left h =
      record { answer = answers; written = begun.front ∙ nothing_laid r h out _ 0 ∙ sym (nothing_laid r h out (framed content body) 0) }

  -- Where some bytes are answered the body is not refused.
  pub never_refused : {n : ℕ} → r ≡ Ok n → (n ≡ 0 → ⊥) → {x : Refusal} → m ≡ Err x → ⊥
  never_refused e h g = let p = planned items content (length out) m (sym (begun_told begun begun_small) ∙ e) h in let f = p.1 in cc

  module _ {n : ℕ} (e : r ≡ Ok n) (h : n ≡ 0 → ⊥) {b : Measured} (g : m ≡ Ok b) where
    plan : Planned b content (length out) n
    plan = begun_plan begun begun_small e h g

    front : Stored out 0 (front_bytes n content) (n - b.length) mid
    front = front_stored begun begun_small e h g

    -- The body has room behind header and block, and is not refused there.
    pub body_fits : {x : Result ℕ Refusal} {later : List ℕ} → MeasuredWritten k body mid (n - b.length) x later → x ≡ Ok b.length
    unfolding encoded_of
    body_fits p =
        let room : n - b.length + b.length ≤ length mid = omega (arith, stored_length front, plan.size, plan.fits) in
        p.answer ∙ (rw (← same, g, ne_eqb b.length 0 (sized.some (sym same ∙ g)), le-leb (n - b.length + b.length) (length mid) room))

    pub batch_stored : {later : List ℕ} {x : Result ℕ Refusal} → MeasuredWritten k body mid (n - b.length) x later → BatchWritten k items content body out r later
    unfolding laid framed
    batch_stored {later} {x} p =
        let offset : ℕ = n - b.length in
        let own : k ≡ Ok b = sym same ∙ g in
        let l : length body ≡ b.length = sized.long own in
        let place : offset ≡ body_offset content = omega (arith, front.after, front_length n content) in
        let fit : offset + length body ≤ length mid = omega (arith, stored_length front, plan.size, plan.fits) in
        let put : later ≡ placed mid offset body = p.written ∙ (rw (body_fits p, ne_eqb b.length 0 (sized.some own))) in
        let behind : Stored mid offset body (offset + length body) later = stored_placed (record { fits = fit }) refl put in
        let long : body_offset content + length body ≡ n = omega (arith, plan.size) in
        let whole : framed content body ≡ front_bytes n content ++ body = ap (λ (n : ℕ). front_bytes n content ++ body) long in
        let w : Stored out 0 (framed content body) (offset + length body) later = stored_same whole (stored_then front behind) in
        let all : 0 + length (framed content body) ≤ length out = omega (arith, w.after, place, long, plan.fits) in
        record {
          answer = answers;
          written =
              w.stored ∙ sets-eq (framed content body) out 0 all
              ∙ (rw (e, ne_eqb n 0 h, le-leb (0 + length (framed content body)) (length out) all));
        }

-- What a contract that is met tells, where the answer is some bytes: the batch stands at the start, and behind it what stood there.
pub record Whole (content body out : List ℕ) (n : ℕ) (later : List ℕ) : Type 0 where
  pub size : n ≡ body_offset content + length body
  pub few : n < 2 ^ 56
  pub bytes : later ≡ framed content body ++ drop n out

pub whole : {m : Result Measured Refusal} {items : ℕ} {content body out : List ℕ} {n : ℕ} {later : List ℕ} → Sized m body
    → BatchWritten m items content body out (Ok n) later → (n ≡ 0 → ⊥) → Whole content body out n later
unfolding laid framed
whole {m} {items} {content} {body} {out} {n} {later} sized w h =
    let p = planned items content (length out) m (sym w.answer) h in
    let k = p.2 in
    let small : p.0.length ≤ 4294967295 = rw p.1 at sized.small in
    let batch : List ℕ = framed content body in
    let l : length body ≡ p.0.length = sized.long p.1 in
    let len : ℕ = body_offset content + length body in
    let long : length batch ≡ len = length-append (front_bytes len content) body ∙ omega (arith, front_length len content) in
    let same : 0 + length batch ≡ n = omega (arith, k.size) in
    let fit : 0 + length batch ≤ length out = omega (arith, k.fits) in
    record {
      size = omega (arith, k.size);
      few = omega (arith, k.size, block_small content, k.few);
      bytes = w.written ∙ (rw (ne_eqb n 0 h, le-leb (0 + length batch) (length out) fit)) ∙ ap (λ (n : ℕ). batch ++ drop n out) same;
    }

-- What a body's contract that is met tells, where it is not refused: the body has a measure, and stands at the place.
pub body_stands : {m : Result Measured Refusal} {body out : List ℕ} {at n : ℕ} {later : List ℕ} → Sized m body → MeasuredWritten m body out at (Ok n) later
    → (b : Measured) × (m ≡ Ok b) × (take n (drop at later) ≡ body)
unfolding encoded_of laid
body_stands {m} {body} {out} {at} {n} {later} sized w = go m refl
  where
    go : (k : Result Measured Refusal) → m ≡ k → (b : Measured) × (m ≡ Ok b) × (take n (drop at later) ≡ body)
    go (Err x) e = let f : Ok n ≡ Err x = w.answer ∙ (rw e) in cc
    go (Ok b) e =
        let told = placing_told b (length out) at (omega (arith, sized.some e)) (w.answer ∙ (rw e)) in
        let long : length body ≡ n = omega (arith, sized.long e, told.1) in
        let some : n ≡ 0 → ⊥ = λ z. sized.some e (omega (arith, told.1)) in
        let fit : at + length body ≤ length out = omega (arith, told.0, told.1) in
        let rest : List ℕ = drop (at + length body) out in
        let put : later ≡ take at out ++ (body ++ rest) = w.written ∙ (rw (ne_eqb n 0 some, le-leb (at + length body) (length out) fit)) ∙ append_assoc (take at out) body rest in
        let front : length (take at out) ≡ at = length-take-le at out (omega arith) in
        (b, e, rw (put, drop_at (take at out) (body ++ rest) at front) (take_at body rest n long))
