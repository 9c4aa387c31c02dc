-- What is spelled is read, and what is read is spelled.
-- Assumes nothing.
use Prim.Native.Nat.{ℕ, zero, suc, ◌+◌, ◌-◌, ◌*◌, ◌≤◌, ◌<◌, suc-le-suc, zero-le}
use mathlib.Core.Path.{◌≡◌, refl, sym, ap, ◌∙◌, subst}
use mathlib.Core.Bool.{Bool, true, false, cond}
use mathlib.Core.List.{List, [], ◌∷◌, ◌++◌}
use native.Mathlib.Omega.{arith}
use native.Mathlib.Nat.{le_of_suc-le-suc, add-suc, suc-add}
use native.Mathlib.Numerals.{add-one}
use lib.Dec.{ltb, leb}
use lib.ListN.{length, get_or}
use borrow.Author.Tests.{lt-ltb, le-ltb, le-leb, ltb-true, ltb-false, leb-true}
use Rattle.std.specs.Prelude.{Ok, Err}
use Rattle.words.specs.declared.Piece.{Piece}
use Rattle.words.specs.Word.{piece}
use Rattle.codec.specs.declared.NumberError.{NumberError}
use Rattle.codec.specs.declared.NumberError.TheVariants.{Eof, Overflow}
use Rattle.codec.specs.Spelling.{Groups, last, more, SpellsNumber}
use Rattle.codec.specs.Number.{NumberRead, under, read_from}

-- What `SpellsNumber` asks, with room for any number of bytes behind the first in the place of nine.
pub record SpellsIn (room n : ℕ) (bs : List ℕ) : Type 0 where
  pub groups : Groups n bs
  pub few : length bs ≤ suc room
  pub tenth : get_or bs room 0 ≤ 1

pub as_number : {n : ℕ} {bs : List ℕ} → SpellsIn 9 n bs → SpellsNumber n bs
as_number h = record { groups = h.groups; few = h.few; tenth = h.tenth }

-- What is spelled is read, whatever follows.
pub read_groups : (room : ℕ) {n : ℕ} {bs : List ℕ} → Groups n bs → length bs ≤ suc room → get_or bs room 0 ≤ 1 → (rest : List ℕ) (p : ℕ)
    → read_from room (bs ++ rest) p ≡ Ok (piece n (p + length bs))
unfolding read_from
read_groups zero (last {b} h) few tenth rest p = simp (le-leb _ _ tenth) (ap (λ q. Ok (piece b q)) (sym (add-one p)))
read_groups (suc room) (last {b} h) few tenth rest p = simp (lt-ltb _ _ h) (ap (λ q. Ok (piece b q)) (sym (add-one p)))
read_groups zero (more h g) few tenth rest p = absurd (omega arith)
read_groups (suc room) (more {b} {n} {bs} h g) few tenth rest p =
    simp (le-ltb _ _ h, read_groups room g (le_of_suc-le-suc few) tenth rest (suc p))
    (ap (λ q. Ok (piece (b - 128 + 128 * n) q)) (suc-add p (length bs) ∙ sym (add-suc p (length bs))))

-- A number stands at the head of l, in at most room more bytes than one; l stands at place p, and the place after the number is next.
pub record Head (room : ℕ) (l : List ℕ) (p n next : ℕ) : Type 0 where
  pub bytes : List ℕ
  pub rest : List ℕ
  pub spells : SpellsIn room n bytes
  pub parts : l ≡ bytes ++ rest
  pub after : next ≡ p + length bytes

-- the numbers and the places of two answers that are equal
pub same_piece : {n m p q : ℕ} → ◌≡◌ {A = NumberRead} (Ok (piece n p)) (Ok (piece m q)) → (n ≡ m) × (p ≡ q)
same_piece {n} {m} {p} {q} e = let r : ◌≡◌ {A = Piece ℕ} (piece n p) (piece m q) = cc in (ap (λ (x : Piece ℕ). x.value) r, ap (λ (x : Piece ℕ). x.next) r)

-- a byte that ends the number
one : (room b : ℕ) (bs : List ℕ) (p n next : ℕ) → b < 128 → get_or (b ∷ []) room 0 ≤ 1 → ◌≡◌ {A = NumberRead} (Ok (piece b (suc p))) (Ok (piece n next)) → Head room (b ∷ bs) p n next
one room b bs p n next h t e =
    let en : b ≡ n = (same_piece e).0 in
    let ep : suc p ≡ next = (same_piece e).1 in
    record {
      bytes = b ∷ [];
      rest = bs;
      spells = record { groups = subst (λ (x : ℕ). Groups x (b ∷ [])) en (last h); few = omega arith; tenth = t };
      parts = refl;
      after = sym ep ∙ sym (add-one p);
    }

-- a byte and the number of the later ones
next_one : (room b : ℕ) (bs : List ℕ) (p n next m q : ℕ) → 128 ≤ b → Head room bs (suc p) m q → ◌≡◌ {A = NumberRead} (Ok (piece (b - 128 + 128 * m) q)) (Ok (piece n next))
    → Head (suc room) (b ∷ bs) p n next
next_one room b bs p n next m q h g e =
    let en : b - 128 + 128 * m ≡ n = (same_piece e).0 in
    let ep : q ≡ next = (same_piece e).1 in
    record {
      bytes = b ∷ g.bytes;
      rest = g.rest;
      spells =
          record {
            groups = subst (λ (x : ℕ). Groups x (b ∷ g.bytes)) en (more h g.spells.groups);
            few = suc-le-suc g.spells.few;
            tenth = g.spells.tenth;
          };
      parts = ap {B = List ℕ} (λ r. b ∷ r) g.parts;
      after = omega arith;
    }

no_done : {n next : ℕ} (e : NumberError) → ◌≡◌ {A = NumberRead} (Err e) (Ok (piece n next)) → ⊥
no_done e f = let z : ◌≡◌ {A = ℕ} 0 1 = cc in omega arith

-- What is read is spelled.
pub read_head : (room : ℕ) (l : List ℕ) (p : ℕ) {n next : ℕ} → read_from room l p ≡ Ok (piece n next) → Head room l p n next
unfolding read_from
read_head zero [] p e = absurd (no_done Eof e)
read_head (suc room) [] p e = absurd (no_done Eof e)
read_head zero (b ∷ bs) p {n} {next} e = go (leb b 1) refl e
  where
    go : (t : Bool) → leb b 1 ≡ t → cond t (Ok (piece b (suc p))) (Err Overflow) ≡ Ok (piece n next) → Head zero (b ∷ bs) p n next
    go true h e = one zero b bs p n next (omega (arith, leb-true b 1 h)) (leb-true _ _ h) e
    go false h e = absurd (no_done Overflow e)
read_head (suc room) (b ∷ bs) p {n} {next} e = go (λ m q eq. read_head room bs (suc p) eq) (ltb b 128) refl e
  where
    later : ((m q : ℕ) → read_from room bs (suc p) ≡ Ok (piece m q) → Head room bs (suc p) m q) → 128 ≤ b
        → (r : NumberRead) → read_from room bs (suc p) ≡ r → under b r ≡ Ok (piece n next) → Head (suc room) (b ∷ bs) p n next
    later ih h (Ok r) eq e = next_one room b bs p n next r.value r.next h (ih r.value r.next eq) e
    later ih h (Err f) eq e = absurd (no_done f e)

    go : ((m q : ℕ) → read_from room bs (suc p) ≡ Ok (piece m q) → Head room bs (suc p) m q) → (t : Bool) → ltb b 128 ≡ t
        → cond t (Ok (piece b (suc p))) (under b (read_from room bs (suc p))) ≡ Ok (piece n next) → Head (suc room) (b ∷ bs) p n next
    go ih true h e = one (suc room) b bs p n next (ltb-true _ _ h) zero-le e
    go ih false h e = later ih (ltb-false _ _ h) (read_from room bs (suc p)) refl e

-- A spelling has a byte.
pub groups_pos : {n : ℕ} {bs : List ℕ} → Groups n bs → 0 < length bs
groups_pos (last h) = suc-le-suc zero-le
groups_pos (more h g) = suc-le-suc zero-le
