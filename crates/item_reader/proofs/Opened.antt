-- What opening finds in a body: its items stand after the count, before the footer.
-- Assumes nothing.
use Rattle.std.proofs.Common.{◌≡◌, ℕ, Bool, true, false, leb, List, Some, None, length, arith}
use Rattle.log_item.specs.Got.{Got, got, refused, done, bind, ◌>>◌, ◌else◌}
use Rattle.log_item.specs.Pieces.{number}
use Rattle.log_item.specs.declared.Form.TheVariants.{Any}
use Rattle.log_item.specs.declared.LogItem.{LogItem}
use Rattle.log_item.specs.declared.EntryIndex.{EntryIndex}
use Rattle.log_batch.specs.Seal.{sealed_part}
use Rattle.log_batch.specs.Reading.{accepted, rejected, counted, items, count, read_items}
use Rattle.log_batch.specs.Body.{read_body}
use Rattle.log_batch.proofs.Accepts.{of_accepted}
use Rattle.log_batch.proofs.Bodies.{parts}
use Rattle.log_batch.proofs.Listing.{sound_items}
use Rattle.item_reader.specs.Cursor.{place_of, after_count, at_first, started}
use Rattle.refusal.specs.declared.Reason.{Reason}
use Rattle.refusal.specs.declared.Reason.TheVariants.{ItemsTooMany}
use Rattle.refusal.specs.Number.{refusal_of}

module _ {xs : List LogItem} {rows : List EntryIndex} {u q : ℕ} where
  -- The items that are read stand after the count, and are as many as it says.
  after_count_lem : (s : List ℕ) → read_items Any s ≡ accepted xs rows u q → items Any s (length xs) 0 0 0 (after_count s) ≡ accepted xs rows u q
  unfolding read_items count after_count
  after_count_lem s e = by_number (number Any s 0) e
    where
      by_test : (b : Bool) (k p : ℕ) → counted (◌>>◌ (b else ItemsTooMany) (done k) p) (λ n z. items Any s n 0 0 0 z) ≡ accepted xs rows u q
          → items Any s (length xs) 0 0 0 p ≡ accepted xs rows u q
      by_test true k p c =
          let long : length xs ≡ k = (of_accepted (sound_items Any s tt k 0 0 0 p (omega arith)) c).has.long in
          rw long c
      by_test false k p c = absurd (cc)

      by_number : (g : Got ℕ) → counted (bind g (λ k. ◌>>◌ (leb k 256 else ItemsTooMany) (done k))) (λ n z. items Any s n 0 0 0 z) ≡ accepted xs rows u q
          → items Any s (length xs) 0 0 0 (place_of g) ≡ accepted xs rows u q
      by_number (got k p) c = by_test (leb k 256) k p c
      by_number (refused n) c = absurd (cc)

  -- So they do in a body, before the footer.
  pub in_body : (body : List ℕ) (signature : ℕ) → read_body body signature ≡ accepted xs rows u q
      → items Any (sealed_part body) (length xs) 0 0 0 (after_count (sealed_part body)) ≡ accepted xs rows u q
  in_body body signature e = after_count_lem (sealed_part body) (parts body signature e).1

-- What opening finds of a body that is accepted, and of one that is refused.
pub opening_good : (body : List ℕ) (signature : ℕ) {xs : List LogItem} {rows : List EntryIndex} {u q : ℕ} → read_body body signature ≡ accepted xs rows u q
    → started body signature ≡ at_first (after_count (sealed_part body)) (length xs) None
unfolding started
opening_good body signature e = rw e

pub opening_bad : (body : List ℕ) (signature : ℕ) {r : Reason} {i : ℕ} → read_body body signature ≡ rejected r i
    → started body signature ≡ at_first 0 0 (Some (refusal_of r i))
unfolding started
opening_bad body signature e = rw e
