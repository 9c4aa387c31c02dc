-- A byte, and a number in a form: what is read is what is spelled.
-- Assumes nothing.
use Prim.Native.Nat.{ℕ, ◌+◌, ◌<◌}
use mathlib.Core.Path.{◌≡◌, refl, ap, ◌∙◌}
use mathlib.Core.List.{List, [], ◌∷◌}
use native.Mathlib.Omega.{arith}
use lib.ListN.{length}
use lib.Seq.{drop-cons}
use borrow.Author.Tests.{lt-ltb, eq-eqb}
use Rattle.std.specs.Prelude.{Ok, Err}
use Rattle.codec.specs.Number.{NumberRead, read_number, number_got}
use Rattle.codec.specs.Shortest.{shortest}
use Rattle.codec.specs.Spelling.{SpellsNumber}
use Rattle.codec.proofs.Spelled.{groups_pos}
use Rattle.codec.proofs.Theorems.{read_iff_stands, shortest_spells, none_as_short, spells_fits}
use Rattle.log_item.specs.declared.Form.{Form}
use Rattle.log_item.specs.declared.Form.TheVariants.{Any, Plain}
use Rattle.log_item.specs.Got.{got}
use Rattle.log_item.specs.Spelling.{NumberIn}
use Rattle.words.specs.Place.{At, Found}
use Rattle.words.specs.Word.{piece}
use Rattle.log_item.specs.ItemSpelled.{Asks}
use Rattle.log_item.specs.Pieces.{byte, number}
use Rattle.log_item.proofs.Holds.{Holds, holds, refuses, after, below, equal}
use Rattle.words.specs.Byte.{Bytes}
use Rattle.words.proofs.Place.{at_byte, at_inside, bytes_at}

-- A byte that stands at a place is read there.
pub complete_byte : {s : List ℕ} {b p q : ℕ} → At s p q (b ∷ []) → byte s p ≡ got b q
unfolding byte
complete_byte {s} {b} {p} {q} f =
    let h : p < length s = omega (arith, f.ends, at_inside f (omega arith)) in
    let e : q ≡ p + 1 = f.ends in
    rw (lt-ltb _ _ h) (cc (drop-cons s p 0 h, f.stand))

-- A byte that is read at a place stands there.
pub sound_byte : (s : List ℕ) (p : ℕ) → Holds (λ b q. At s p q (b ∷ [])) (byte s p)
unfolding byte
sound_byte s p = below p (length s) _ _ _ λ h. holds (at_byte p h)

-- A spelling in the shortest form is a spelling.
pub plain_any : (n : ℕ) (x : List ℕ) → NumberIn Plain n x → NumberIn Any n x
plain_any n x h = rw h.1 (shortest_spells n h.0)

-- A spelling in either form is a spelling.
pub in_any : (form : Form) (n : ℕ) (x : List ℕ) → NumberIn form n x → NumberIn Any n x
in_any Any n x h = h
in_any Plain n x h = plain_any n x h

-- A spelling has a byte.
pub number_some : (form : Form) (n : ℕ) (x : List ℕ) → NumberIn form n x → 0 < length x
number_some form n x h = groups_pos (in_any form n x h).groups

-- A number in any spelling is read.
complete_any : {s : List ℕ} {n : ℕ} {x : List ℕ} → SpellsNumber n x → {p q : ℕ} → At s p q x → read_number s p ≡ Ok (piece n q)
complete_any {s} {n} {x} h {p} {q} f = (read_iff_stands s p n q).1 (record { bytes = x; at = f; has = h })

-- A number that is spelled at a place is read there.
pub complete_number : (form : Form) {s : List ℕ} {n : ℕ} {x : List ℕ} → NumberIn form n x → {p q : ℕ} → At s p q x → number form s p ≡ got n q
unfolding number
complete_number Any h f = rw (complete_any h f)
complete_number Plain {n = n} {x = x} h {p} {q} f =
    let e : q ≡ p + length (shortest n) = f.ends ∙ ap (λ l. p + length l) h.1 in
    rw (complete_any (plain_any n x h) f, eq-eqb _ _ e)

-- A number that is read has a spelling there.
sound_any : (s : List ℕ) (p : ℕ) → Holds (λ n q. Found s (SpellsNumber n) p q) (number_got (read_number s p))
sound_any s p = go (read_number s p) refl
  where
    go : (r : NumberRead) → read_number s p ≡ r → Holds (λ n q. Found s (SpellsNumber n) p q) (number_got r)
    go (Ok n) e = holds ((read_iff_stands s p n.value n.next).0 e)
    go (Err r) e = refuses

-- A number that is read at a place is spelled there.
pub sound_number : (form : Form) (s : List ℕ) → Asks form s → (p : ℕ) → Holds (λ n q. Found s (NumberIn form n) p q) (number form s p)
unfolding number
sound_number Any s asks p = sound_any s p
sound_number Plain s asks p =
    after (sound_any s p) λ n q f.
    equal q (p + length (shortest n)) _ _ _ λ e.
    let bytes : Bytes f.bytes = bytes_at f.at asks in
    let short : length f.bytes ≡ length (shortest n) = omega (arith, f.at.ends) in
    holds (record { bytes = f.bytes; at = f.at; has = (spells_fits f.has bytes, none_as_short f.has bytes short) })
