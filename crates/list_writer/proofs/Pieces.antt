-- A piece of a body for which there is room is stored.
-- Assumes nothing.
use Prim.Native.Nat.{ℕ, ◌+◌, ◌-◌, ◌≤◌}
use mathlib.Core.Path.{◌≡◌, ◌∙◌}
use mathlib.Core.Bool.{true}
use mathlib.Core.List.{List}
use native.Mathlib.Omega.{arith}
use lib.Bits.{bit_xor}
use lib.ListN.{length, take, drop}
use borrow.Author.Tests.{le-leb}
use Rattle.refusal.specs.First.{fine}
use Rattle.words.specs.Write.{next_at, placed}
use Rattle.words.proofs.Words.{length_little}
use Rattle.crc.specs.Crc.{crc_of}
use Rattle.log_item.specs.declared.LogItem.{LogItem}
use Rattle.log_item.specs.Bytes.{head_bytes}
use Rattle.log_item.specs.Refusing.{content_inside}
use Rattle.log_item.specs.Private.{Room, Stored}
use Rattle.log_item.proofs.Stores.{none_refused, stored_at}
use Rattle.list_writer.specs.Pieces.{head_refusal, head_next, head_placed, footer_of, footer_next, footer_placed}

-- Where the spans lie in the store and there is room, it is stored.
pub head_stored : (s : List ℕ) (x : LogItem) {out later : List ℕ} {at next : ℕ} → content_inside s x.content ≡ true → Room out at (head_bytes s x)
    → (next ≡ head_next s x (length out) at) × (later ≡ head_placed s x out at) → Stored out at (head_bytes s x) next later
unfolding head_next head_placed next_at
head_stored s x {out} {later} {at} {next} i h p =
    let z : head_refusal s x (length out) at ≡ fine = none_refused i h in
    let q : (next ≡ at + length (head_bytes s x)) × (later ≡ placed out at (head_bytes s x)) = rw z at p in
    stored_at h (q.0 ∙ (rw (le-leb (at + length (head_bytes s x)) (length out) h.fits)), q.1)

-- Where there is room for its four bytes, it is stored.
pub footer_stored : (signature start at : ℕ) {out later : List ℕ} {next : ℕ} → start ≤ at → at + 4 ≤ length out
    → (next ≡ footer_next signature start at out) × (later ≡ footer_placed signature start at out) → Stored out at (footer_of signature start at out) next later
unfolding footer_next footer_placed
footer_stored signature start at {out} {later} {next} h k p =
    let q : (next ≡ next_at out at (footer_of signature start at out)) × (later ≡ placed out at (footer_of signature start at out)) = rw (le-leb start at h) at p in
    let w : ℕ = bit_xor (crc_of (take (at - start) (drop start out))) signature in
    stored_at (record { fits = omega (arith, length_little 4 w) }) q
