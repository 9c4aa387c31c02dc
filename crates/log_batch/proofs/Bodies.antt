-- What is read of a body and of its plain form.
-- Assumes nothing.
use Rattle.std.proofs.Common.{◌≡◌, ℕ, ◌-◌, ◌<◌, true, List, length, drop, Ok, Err, sym, refl, ap, arith, length-append, length-drop, take-append-drop}
use Rattle.log_item.specs.declared.Form.TheVariants.{Any, Plain}
use Rattle.log_item.specs.declared.LogItem.{LogItem}
use Rattle.log_item.specs.declared.EntryIndex.{EntryIndex}
use Rattle.words.specs.Byte.{Bytes}
use Rattle.words.proofs.Bytes.{bytes_take}
use Rattle.refusal.specs.First.{Checked, fine}
use Rattle.refusal.specs.declared.Reason.{Reason}
use Rattle.log_batch.specs.Acceptable.{Begins, Acceptable}
use Rattle.log_batch.specs.Plain.{InPlainForm}
use Rattle.log_batch.specs.Reading.{Answer, accepted, rejected, read_items}
use Rattle.log_batch.specs.Seal.{sealed_part, seal_check}
use Rattle.log_batch.proofs.Sealing.{Sealed, sealed, part_of, sealed_of}
use Rattle.log_batch.specs.Body.{unless, read_body}
use Rattle.log_batch.specs.Answers.{plain_of, plain_body}
use Rattle.log_batch.proofs.Accepts.{of_accepted}
use Rattle.log_batch.proofs.Listing.{complete, sound, spells_some, begins_any}

module _ {xs : List LogItem} {rows : List EntryIndex} {u q : ℕ} where
  -- An accepted answer was not refused before.
  accepted_unless : (c : Checked Reason) (a : Answer) → unless c a ≡ accepted xs rows u q → (c ≡ fine) × (a ≡ accepted xs rows u q)
  accepted_unless (Ok tt) a e = (refl, e)
  accepted_unless (Err r) a e = cc

-- an answer that is a list
abbrev Taken : Answer → Type 0
Taken a = (xs : List LogItem) × (rows : List EntryIndex) × (u : ℕ) × (q : ℕ) × (a ≡ accepted xs rows u q)

-- A yes comes of two readings that accepted.
twice : (a b : Answer) → plain_of a b ≡ Ok true → Taken a × Taken b
twice (accepted xs rows u q) (accepted ys more v r) e = ((xs, rows, u, q, refl), (ys, more, v, r, refl))
twice (accepted xs rows u q) (rejected r i) e = cc
twice (rejected r i) b e = cc

module _ (body : List ℕ) (signature : ℕ) where
  -- A body whose seal is right and whose part before the footer begins with a list is acceptable.
  pub acceptable_of : Sealed body signature → {xs : List LogItem} {rows : List EntryIndex} {u : ℕ} {bytes : List ℕ} → Begins Any (sealed_part body) xs rows u bytes
      → Acceptable body signature xs rows u bytes
  acceptable_of h b =
      record {
        rest = sealed_part body;
        last = drop (length body - 4) body;
        split = sym (take-append-drop (length body - 4) body);
        four = omega (arith, length-drop (length body - 4) body, h.long);
        checks = h.right;
        begins = b;
      }

  module _ {xs : List LogItem} {rows : List EntryIndex} {u q : ℕ} where
    -- What an accepted body is: its seal is right, and the part before the footer is accepted.
    pub parts : read_body body signature ≡ accepted xs rows u q → Sealed body signature × (read_items Any (sealed_part body) ≡ accepted xs rows u q)
    unfolding read_body
    parts e = let p = accepted_unless (seal_check body signature) (read_items Any (sealed_part body)) e in (sealed body signature p.0, p.1)

    -- A body that is accepted is acceptable.
    pub sound_body : read_body body signature ≡ accepted xs rows u q → (bytes : List ℕ) × Acceptable body signature xs rows u bytes × (q ≡ length bytes)
    sound_body e =
        let p = parts e in
        let h = of_accepted (sound Any (sealed_part body) tt) p.1 in
        (h.0, acceptable_of p.0 h.1, h.2)

  -- An acceptable body is accepted.
  pub complete_body : {xs : List LogItem} {rows : List EntryIndex} {u : ℕ} {bytes : List ℕ} → Acceptable body signature xs rows u bytes
      → read_body body signature ≡ accepted xs rows u (length bytes)
  unfolding read_body
  complete_body a =
      let some : 0 < length a.rest = omega (arith, spells_some Any a.begins.spells, simp length-append at (ap length a.begins.split)) in
      rw (a.split, sealed_of a.rest a.last signature some a.four a.checks, part_of a.rest a.last a.four) (complete Any a.begins)

  -- A body in plain form gets a yes.
  pub complete_plain : InPlainForm body signature → plain_body body signature ≡ Ok true
  unfolding plain_body
  complete_plain f =
      let a = f.acceptable in
      let part : sealed_part body ≡ a.rest = rw a.split (part_of a.rest a.last a.four) in
      let strict : Begins Plain a.rest f.items f.rows f.total f.bytes =
      record { ignored = a.begins.ignored; split = a.begins.split; spells = f.shortest; within = a.begins.within } in
      rw (complete_body a, part, complete Plain strict)

  -- A body for which the test says yes is in plain form.
  pub sound_plain : Bytes body → plain_body body signature ≡ Ok true → InPlainForm body signature
  unfolding plain_body
  sound_plain bytes e =
      let t = twice (read_body body signature) (read_items Plain (sealed_part body)) e in
      let h = of_accepted (sound Plain (sealed_part body) (bytes_take (length body - 4) body bytes)) t.1.4 in
      record {
        items = t.1.0;
        rows = t.1.1;
        total = t.1.2;
        bytes = h.0;
        acceptable = acceptable_of (parts t.0.4).0 (begins_any Plain h.1);
        shortest = h.1.spells;
      }
