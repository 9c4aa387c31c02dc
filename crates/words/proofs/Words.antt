-- Words: the bytes at a place, the sums and quotients that the code computes, and that a word's bytes spell the word.
-- Assumes nothing.
use Prim.Native.Nat.{ℕ, zero, suc, ◌+◌, ◌*◌, ◌/◌, ◌%◌, ◌^◌, ◌≤◌, ◌<◌}
use mathlib.Core.Path.{◌≡◌, refl, sym, ap, ◌∙◌}
use mathlib.Core.Bool.{Bool, true, false, cond}
use mathlib.Core.List.{List, [], ◌∷◌}
use native.Mathlib.Omega.{arith}
use native.Mathlib.Nat.{add-zero, add-suc, mod-one, one-le-pow, pow-suc, pow-succ'}
use lib.ListN.{length, get_or, take, drop}
use lib.Dec.{leb, lit<}
use lib.Seq.{drop-cons}
use Rattle.std.specs.Int.{w32, to_le_bytes, from_le_bytes, from_be_bytes}
use lib.Arith.{mod-mul}
use borrow.Author.Tests.{le-leb, lt-leb, leb-true, leb-false}
use Rattle.std.specs.Prelude.{Some, None}
use Rattle.words.specs.declared.Piece.{Piece}
use Rattle.words.specs.Word.{big_endian, little_endian, big_endian_bytes, little_endian_bytes, piece, read_u64, read_u32}

-- ---- the words as the code puts them together

pub low_first : (a b c d : ℕ) → from_le_bytes w32 (a ∷ b ∷ c ∷ d ∷ []) ≡ little_endian (a ∷ b ∷ c ∷ d ∷ [])
unfolding little_endian
low_first a b c d = omega arith

pub high_first : (a b c d : ℕ) → from_be_bytes w32 (a ∷ b ∷ c ∷ d ∷ []) ≡ big_endian (a ∷ b ∷ c ∷ d ∷ [])
unfolding big_endian
high_first a b c d = omega arith

pub big_endian_halves : (a b c d e f g h : ℕ)
    → big_endian (a ∷ b ∷ c ∷ d ∷ []) * 2 ^ 32 + big_endian (e ∷ f ∷ g ∷ h ∷ []) ≡ big_endian (a ∷ b ∷ c ∷ d ∷ e ∷ f ∷ g ∷ h ∷ [])
unfolding big_endian
big_endian_halves a b c d e f g h = omega arith

-- ---- reading

-- the k bytes from the place p + j on
abbrev pub bytes_at : ℕ → List ℕ → ℕ → ℕ → List ℕ
bytes_at zero s p j = []
bytes_at (suc k) s p j = get_or s (p + j) 0 ∷ bytes_at k s p (suc j)

part_at : (k : ℕ) (s : List ℕ) (p j : ℕ) → p + j + k ≤ length s → take k (drop (p + j) s) ≡ bytes_at k s p j
part_at zero s p j h = refl
part_at (suc k) s p j h =
    let here : p + j < length s = omega arith in
    let rest : p + suc j + k ≤ length s = omega arith in
    rw (drop-cons s (p + j) 0 here, ← add-suc p j, part_at k s p (suc j) rest)

part : (k : ℕ) (s : List ℕ) (p : ℕ) → p + k ≤ length s → take k (drop p s) ≡ bytes_at k s p 0
part k s p h =
    let fits : p + 0 + k ≤ length s = omega arith in
    ap (λ (q : ℕ). take k (drop q s)) (sym (add-zero p)) ∙ part_at k s p 0 fits

front : (k : ℕ) (s : List ℕ) (p : ℕ) → p + suc k ≤ length s → take (suc k) (drop p s) ≡ get_or s p 0 ∷ bytes_at k s p 1
front k s p h = part (suc k) s p h ∙ ap (λ (q : ℕ). get_or s q 0 ∷ bytes_at k s p 1) (add-zero p)

module _ (s : List ℕ) (at : ℕ) where
  pub u64_none : length s < at + 8 → None ≡ read_u64 s at
  unfolding read_u64
  u64_none h = simp (lt-leb _ _ h)

  pub u32_none : length s < at + 4 → None ≡ read_u32 s at
  unfolding read_u32
  u32_none h = simp (lt-leb _ _ h)

  pub u64_some : (h l : ℕ) → at + 8 ≤ length s → h ≡ big_endian (get_or s at 0 ∷ bytes_at 3 s at 1) → l ≡ big_endian (bytes_at 4 s at 4)
      → Some (piece (h * 2 ^ 32 + l) (at + 8)) ≡ read_u64 s at
  unfolding read_u64
  u64_some h l e f g = simp (le-leb _ _ e) (ap (λ (x : ℕ). Some (piece x (at + 8)))
      (rw (f, g) (big_endian_halves (get_or s at 0) (get_or s (at + 1) 0) (get_or s (at + 2) 0) (get_or s (at + 3) 0) (get_or s (at + 4) 0) (get_or s (at + 5) 0) (get_or s (at + 6) 0) (get_or s (at + 7) 0))
      ∙ ap big_endian (sym (front 7 s at e))))

  pub u32_some : at + 4 ≤ length s → Some (piece (from_le_bytes w32 (get_or s at 0 ∷ bytes_at 3 s at 1)) (at + 4)) ≡ read_u32 s at
  unfolding read_u32
  u32_some h = simp (le-leb _ _ h)
      (ap (λ (x : ℕ). Some (piece x (at + 4)))
      (low_first (get_or s at 0) (get_or s (at + 1) 0) (get_or s (at + 2) 0) (get_or s (at + 3) 0) ∙ ap little_endian (sym (front 3 s at h))))

-- what two pieces that are one have in common
pub one_piece : {A : Type 0} {x y : A} {p q : ℕ} → Some (piece x p) ≡ Some (piece y q) → (x ≡ y) × (p ≡ q)
one_piece {A} {x} {y} {p} {q} e =
    let k : ◌≡◌ {A = Piece A} (piece x p) (piece y q) = cc in
    (ap (λ (w : Piece A). w.value) k, ap (λ (w : Piece A). w.next) k)

-- what an answer says of the bytes
pub u64_known : (s : List ℕ) (at : ℕ) {w q : ℕ} → read_u64 s at ≡ Some (piece w q) → (at + 8 ≤ length s) × (w ≡ big_endian (take 8 (drop at s))) × (q ≡ at + 8)
unfolding read_u64
u64_known s at {w} {q} e = go (leb (at + 8) (length s)) refl e
  where
    go : (t : Bool) → leb (at + 8) (length s) ≡ t → cond t (Some (piece (big_endian (take 8 (drop at s))) (at + 8))) None ≡ Some (piece w q)
        → (at + 8 ≤ length s) × (w ≡ big_endian (take 8 (drop at s))) × (q ≡ at + 8)
    go true h f = let k = one_piece f in (leb-true (at + 8) (length s) h, sym k.0, sym k.1)
    go false h f = let z : ◌≡◌ {A = ℕ} 0 1 = cc in absurd (omega arith)

pub u64_ended : (s : List ℕ) (at : ℕ) → read_u64 s at ≡ None → length s < at + 8
unfolding read_u64
u64_ended s at e = go (leb (at + 8) (length s)) refl e
  where
    go : (t : Bool) → leb (at + 8) (length s) ≡ t → cond t (Some (piece (big_endian (take 8 (drop at s))) (at + 8))) None ≡ None → length s < at + 8
    go true h f = let z : ◌≡◌ {A = ℕ} 0 1 = cc in absurd (omega arith)
    go false h f = leb-false (at + 8) (length s) h

-- ---- a word's bytes, as the code computes them

pub low_first_bytes : (w : ℕ) → to_le_bytes w32 w ≡ little_endian_bytes 4 w
unfolding little_endian_bytes
low_first_bytes w =
    let none : w / 1 % 256 ≡ w % 256 = omega arith in
    let second : w / 65536 ≡ w / 256 / 256 = omega arith in
    let third : w / 16777216 ≡ w / 256 / 256 / 256 = omega arith in
    rw (second, third)

-- the bytes of the two halves, turned round
pub half_parts : (w : ℕ) (high low : List ℕ) → high ≡ to_le_bytes w32 (w / 2 ^ 32) → low ≡ to_le_bytes w32 (w % 2 ^ 32)
    → get_or high 3 0 ∷ get_or high 2 0 ∷ get_or high 1 0 ∷ get_or high 0 0 ∷ get_or low 3 0 ∷ get_or low 2 0 ∷ get_or low 1 0 ∷ get_or low 0 0 ∷ [] ≡ big_endian_bytes 8 w
unfolding big_endian_bytes little_endian_bytes
half_parts w high low h l =
    let seventh : w / 2 ^ 32 / 256 / 256 / 256 % 256 ≡ w / 256 ^ 7 % 256 = omega arith in
    let sixth : w / 2 ^ 32 / 256 / 256 % 256 ≡ w / 256 ^ 6 % 256 = omega arith in
    let fifth : w / 2 ^ 32 / 256 % 256 ≡ w / 256 ^ 5 % 256 = omega arith in
    let third : w % 2 ^ 32 / 256 / 256 / 256 % 256 ≡ w / 256 ^ 3 % 256 = omega arith in
    let second : w % 2 ^ 32 / 256 / 256 % 256 ≡ w / 256 ^ 2 % 256 = omega arith in
    let first : w % 2 ^ 32 / 256 % 256 ≡ w / 256 ^ 1 % 256 = omega arith in
    let none : w % 2 ^ 32 % 256 ≡ w / 256 ^ 0 % 256 = omega arith in
    rw (h ∙ low_first_bytes (w / 2 ^ 32), l ∙ low_first_bytes (w % 2 ^ 32), seventh, sixth, fifth, third, second, first, none)

pub length_big : (k w : ℕ) → length (big_endian_bytes k w) ≡ k
unfolding big_endian_bytes
length_big zero w = refl
length_big (suc k) w = ap suc (length_big k w)

pub length_little : (k w : ℕ) → length (little_endian_bytes k w) ≡ k
unfolding little_endian_bytes
length_little zero w = refl
length_little (suc k) w = ap suc (length_little k (w / 256))

-- the bytes of a word that they have room for spell it
pub little_endian_back : (k w : ℕ) → w < 256 ^ k → little_endian (little_endian_bytes k w) ≡ w
unfolding little_endian little_endian_bytes
little_endian_back zero w h = omega arith
little_endian_back (suc k) w h =
    let wide : 256 ^ suc k ≡ 256 ^ k * 256 = pow-suc 256 k in
    let rest : w / 256 < 256 ^ k = omega arith in
    rw (little_endian_back k (w / 256) rest) (omega arith)

-- k bytes of a word spell what it has below 256 ^ k
pub big_endian_back : (k w : ℕ) → big_endian (big_endian_bytes k w) ≡ w % 256 ^ k
unfolding big_endian big_endian_bytes
big_endian_back zero w = sym (mod-one w)
big_endian_back (suc k) w =
    rw (length_big k w, big_endian_back k w)
    (sym (mod-mul w (lit< tt) (one-le-pow k 256 (lit< tt))) ∙ ap (λ (m : ℕ). w % m) (sym (pow-succ' 256 k)))
