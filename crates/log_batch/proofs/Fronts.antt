-- Beginning a whole batch: header and block one after the other, and what the contract of that tells.
-- Assumes nothing.
use Rattle.std.proofs.Common.{◌≡◌, ℕ, ◌+◌, ◌-◌, ◌*◌, ◌<◌, ◌≤◌, true, false, eqb, List, ◌++◌, length, Option, Result, Ok, sym, refl, ap, ◌∙◌, arith, eqb-true, ne_eqb, le-leb}
use borrow.Author.Tests.{eqb-false}
use Rattle.refusal.specs.declared.Refusal.{Refusal}
use Rattle.words.specs.Word.{big_endian_bytes, little_endian_bytes}
use Rattle.words.specs.Write.{wrote_at, placed}
use Rattle.words.proofs.Words.{length_big, length_little}
use Rattle.words.proofs.Writing.{room_for}
use Rattle.crc.specs.Crc.{crc_of}
use Rattle.log_item.specs.Private.{Room, Stored}
use Rattle.log_item.proofs.Stores.{stored_then, stored_length, stored_same, stored_placed}
use Rattle.list_writer.specs.declared.Measured.{Measured}
use Rattle.list_writer.specs.Answers.{laid}
use Rattle.log_batch.specs.Front.{block_bytes, body_offset, header_bytes, front_bytes, batch_encoded, measured_length, front_encoded, FrontWritten}
use Rattle.log_batch.proofs.Planning.{empty_block, filled_block, block_empty, block_filled, block_small, front_length, Planned, planned, plan_of}

-- ---- header and block

module _ (content out : List ℕ) (len : ℕ) (room : Room out 0 (front_bytes len content)) {offset : ℕ} (there : offset ≡ body_offset content) {a b : List ℕ}
    {p q : Option ℕ} (first : (p ≡ wrote_at out 0 (big_endian_bytes 8 (len * 256))) × (a ≡ placed out 0 (big_endian_bytes 8 (len * 256))))
    (second : (q ≡ wrote_at a 8 (big_endian_bytes 8 offset)) × (b ≡ placed a 8 (big_endian_bytes 8 offset))) where
  enough : body_offset content ≤ length out
  enough = omega (arith, room.fits, front_length len content)

  header_stored : Stored out 0 (header_bytes len offset) 16 b
  unfolding header_bytes
  header_stored =
      let one : Stored out 0 (big_endian_bytes 8 (len * 256)) 8 a =
      stored_placed (record { fits = omega (arith, enough, length_big 8 (len * 256)) }) (omega (arith, length_big 8 (len * 256))) first.1 in
      stored_then one
      (stored_placed (record { fits = omega (arith, enough, length_big 8 offset, stored_length one) }) (omega (arith, length_big 8 offset)) second.1)

  with_block : {later : List ℕ} → Stored b 16 (block_bytes content) offset later → Stored out 0 (front_bytes len content) offset later
  unfolding front_bytes
  with_block w = stored_same (ap (λ (n : ℕ). header_bytes len n ++ block_bytes content) (sym there)) (stored_then header_stored w)

  at_start : {later : List ℕ} → Stored out 0 (front_bytes len content) offset later → later ≡ placed out 0 (front_bytes len content)
  at_start {later} w = (room_for out 0 (front_bytes len content) later offset room.fits (w.stored, w.after)).1

  pub front_empty : true ≡ eqb (length content) 0 → b ≡ placed out 0 (front_bytes len content)
  front_empty e =
      let h = eqb-true (length content) 0 (sym e) in
      at_start (with_block (stored_same (empty_block content h) (record { after = there ∙ sym (block_empty content h); stored = refl })))

  pub front_filled : false ≡ eqb (length content) 0 → {d later : List ℕ} {u v : Option ℕ} {c : ℕ} → (u ≡ wrote_at b 16 content) × (d ≡ placed b 16 content) → c ≡ crc_of content
      → (v ≡ wrote_at d (16 + length content) (little_endian_bytes 4 c)) × (later ≡ placed d (16 + length content) (little_endian_bytes 4 c))
      → later ≡ placed out 0 (front_bytes len content)
  front_filled e {d} {later} {u} {v} {c} third k fourth =
      let h = eqb-false (length content) 0 (sym e) in
      let n = block_filled content h in
      let l = stored_length header_stored in
      let one : Stored b 16 content (16 + length content) d = stored_placed (record { fits = omega (arith, enough, n, l) }) refl third.1 in
      let two : Stored d (16 + length content) (little_endian_bytes 4 c) offset later =
      stored_placed (record { fits = omega (arith, enough, n, l, stored_length one, length_little 4 c) }) (omega (arith, n, there, length_little 4 c)) fourth.1 in
      let whole : block_bytes content ≡ content ++ little_endian_bytes 4 c = rw k (filled_block content h) in
      at_start (with_block (stored_same whole (stored_then one two)))

-- ---- a batch begun

-- What the writing of a front asks for, where the answer is some bytes.
pub front_asked : (m : Result Measured Refusal) (items : ℕ) (content out : List ℕ) {n : ℕ} → measured_length m ≤ 4294967295 → Ok n ≡ batch_encoded m items content (length out)
    → (n ≡ 0 → ⊥) → (length content ≤ 2147483647) × (n < 72057594037927936) × Room out 0 (front_bytes n content)
front_asked m items content out {n} small told h =
    let p = planned items content (length out) m (sym told) h in
    let k = p.2 in
    let block = block_small content in
    let long : p.0.length ≤ 4294967295 = rw p.1 at small in
    (k.few, omega (arith, k.few, k.size), record { fits = omega (arith, k.size, k.fits, front_length n content) })

-- What the contract tells of a body that is not too long: the answer, and that header and block stand before where the body is to stand.
module _ {m : Result Measured Refusal} {items : ℕ} {content out : List ℕ} {r : Result ℕ Refusal} {mid : List ℕ} (begun : FrontWritten m items content out r mid)
    (small : measured_length m ≤ 4294967295) where
  pub begun_told : r ≡ batch_encoded m items content (length out)
  unfolding front_encoded
  begun_told = simp (le-leb (measured_length m) 4294967295 small) at begun.answer

  module _ {n : ℕ} (e : r ≡ Ok n) (h : n ≡ 0 → ⊥) {b : Measured} (g : m ≡ Ok b) where
    pub begun_plan : Planned b content (length out) n
    begun_plan = plan_of items content (length out) g (sym begun_told ∙ e) h

    pub body_behind : b.length ≤ n
    body_behind = omega (arith, begun_plan.size)

    pub front_stored : Stored out 0 (front_bytes n content) (n - b.length) mid
    unfolding laid
    front_stored =
        let k = begun_plan in
        let long = front_length n content in
        let fit : 0 + length (front_bytes n content) ≤ length out = omega (arith, k.size, k.fits) in
        stored_placed (record { fits = fit }) (omega (arith, k.size)) (begun.front ∙ (rw (e, ne_eqb n 0 h)))
