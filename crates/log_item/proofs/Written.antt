-- What `measure` and `encode` answer, by their ways out.
-- Assumes nothing.
use Prim.Native.Nat.{ℕ, ◌+◌, ◌≤◌, ◌<◌, ◌-◌, ◌^◌}
use mathlib.Core.Path.{◌≡◌, ◌∙◌}
use mathlib.Core.Bool.{Bool, true, false}
use mathlib.Core.List.{List}
use native.Mathlib.Omega.{arith}
use lib.ListN.{length, length-append, length-take}
use borrow.Author.Tests.{lt-ltb, le-ltb, le-leb}
use Rattle.std.specs.Prelude.{Ok, Err}
use Rattle.refusal.specs.First.{fine}
use Rattle.refusal.specs.declared.Reason.{Reason}
use Rattle.words.proofs.Writing.{room_for}
use Rattle.log_item.specs.Entries.{entries_of}
use Rattle.log_item.specs.declared.LogItem.{LogItem}
use Rattle.log_item.specs.Bytes.{head_bytes, tails_bytes}
use Rattle.log_item.specs.Refusing.{content_inside, content_refusal}
use Rattle.log_item.specs.Written.{capped, measure_item, piece_refusal, sum_of, row_lengths, item_bytes, item_refusal, ItemWritten}
use Rattle.log_item.specs.Private.{Room, Stored, fitted, head_length, tails_size}
use Rattle.log_item.proofs.Lengths.{head_length_lem, bytes_told}
use Rattle.log_item.proofs.Stores.{room_first, room_then, stored_then, piece_ready}
use Rattle.log_item.proofs.Tails.{sized_over, sized_fine}
use Rattle.log_item.proofs.Refusals.{content_inside_lem, content_allowed}

module _ (s : List ℕ) (checked : Bool) (used rows : ℕ) (x : LogItem) where
  pub measure_fine : content_refusal s checked used rows x.content ≡ fine
      → measure_item s checked used rows x ≡ Ok (record { len = capped (fitted (head_length x)); count = (entries_of x.content).count })
  unfolding measure_item
  measure_fine e =
      let l : capped (length (head_bytes s x)) ≡ capped (fitted (head_length x)) = omega (arith, head_length_lem s x (content_inside_lem s checked used rows x.content e)) in
      rw (e, l)

module _ (s : List ℕ) (x : LogItem) (lengths : List ℕ) (t : ℕ) (out : List ℕ) (at : ℕ) where
  pub encode_refused : {r : Reason} → content_refusal s false 0 (length lengths) x.content ≡ Err r → ItemWritten s x lengths t out at (Err r) out
  unfolding item_refusal
  encode_refused e = record { answer = rw e; written = rw e }

  module _ (e : content_refusal s false 0 (length lengths) x.content ≡ fine) where
    pub encode_inside : content_inside s x.content ≡ true
    encode_inside = content_inside_lem s false 0 (length lengths) x.content e

    pub rows_lent : (entries_of x.content).count ≡ length (row_lengths x lengths)
    rows_lent =
        omega (arith, (content_allowed s false 0 (length lengths) x.content e).lent (omega arith), length-take (entries_of x.content).count lengths)

    pub encode_over : {r : Reason} → tails_size 0 (row_lengths x lengths) t ≡ Err r → ItemWritten s x lengths t out at (Err r) out
    unfolding item_refusal
    encode_over h =
        let over = sized_over 0 (row_lengths x lengths) t h in
        record { answer = rw (e, lt-ltb _ _ over.0, over.1); written = rw (e, lt-ltb _ _ over.0) }

    module _ (len total : ℕ) (h : tails_size 0 (row_lengths x lengths) t ≡ Ok (len, total)) where
      sized : (sum_of t (row_lengths x lengths) ≤ 4294967295) × (len ≡ fitted (0 + length (tails_bytes (row_lengths x lengths) t))) × (total ≡ sum_of t (row_lengths x lengths))
      sized = sized_fine 0 (row_lengths x lengths) t h

      pub tails_low : sum_of t (row_lengths x lengths) ≤ 4294967295
      tails_low = sized.0

      module _ (n : ℕ) (f : n ≡ fitted (fitted (head_length x) + len)) (small : length out < 2 ^ 64 - 1) where
        told : piece_refusal true at (length (item_bytes s x lengths t)) (length out) ≡ piece_refusal true at n (length out)
        unfolding item_bytes
        told =
            let fit : n ≡ fitted (length (item_bytes s x lengths t)) =
            omega (arith, sized.1, head_length_lem s x encode_inside, length-append (head_bytes s x) (tails_bytes (row_lengths x lengths) t)) in
            rw fit (bytes_told (item_bytes s x lengths t) at (length out) small)

        pub encode_short : {r : Reason} → piece_refusal true at n (length out) ≡ Err r → ItemWritten s x lengths t out at (Err r) out
        unfolding item_refusal piece_refusal
        encode_short q = let q' = told ∙ q in record { answer = rw (e, le-ltb _ _ tails_low, q'); written = rw (e, le-ltb _ _ tails_low, q') }

        module _ (q : piece_refusal true at n (length out) ≡ fine) where
          room : Room out at (item_bytes s x lengths t)
          room = piece_ready true out (item_bytes s x lengths t) at (told ∙ q)

          pub head_room : Room out at (head_bytes s x)
          unfolding item_bytes
          head_room = room_first _ _ room

          module _ {m : ℕ} {mid : List ℕ} (w : Stored out at (head_bytes s x) m mid) where
            pub tails_room : Room mid m (tails_bytes (row_lengths x lengths) t)
            unfolding item_bytes
            tails_room = room_then _ w room

            pub encode_done : {next : ℕ} {later : List ℕ} → Stored mid m (tails_bytes (row_lengths x lengths) t) next later
                → ItemWritten s x lengths t out at (Ok (record { next = next; total = total })) later
            unfolding item_refusal item_bytes
            encode_done {next} {later} w' =
                let full : Stored out at (item_bytes s x lengths t) next later = stored_then w w' in
                let none : item_refusal s x lengths t out at ≡ fine = rw (e, le-ltb _ _ tails_low, le-leb _ _ room.fits) in
                let i = full.after in
                let j = sized.2 in
                record {
                  answer = rw none cc;
                  written = rw none (room_for out at (item_bytes s x lengths t) later next room.fits (full.stored, full.after)).1;
                }
