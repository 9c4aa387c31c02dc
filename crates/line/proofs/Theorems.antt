-- What the definitions come to: the words of a line are what its spaces part, and an even number of digits spells as a number what the bytes that
-- they spell are as a word, highest first.
-- Assumes nothing.
use Prim.Native.Nat.{ℕ, zero, suc, ◌+◌, ◌*◌, ◌%◌, ◌^◌, ◌≤◌}
use mathlib.Core.Path.{◌≡◌, refl, ap, ◌∙◌}
use mathlib.Core.List.{List, [], ◌∷◌, ◌++◌}
use native.Mathlib.Omega.{arith}
use native.Mathlib.Nat.{pow-suc}
use lib.ListN.{length, drop_of_length-le}
use lib.Seq.{take-append_seam, drop-append-add, take-length, take-nil}
use borrow.Author.Tests.{ne_eqb}
use Rattle.words.specs.Word.{big_endian}
use Rattle.line.specs.Word.{index_of, space, words_from, word_of, Solid}
use Rattle.line.specs.Hex.{hex_number, hex_bytes}
use Rattle.line.proofs.Places.{none_from}
use Rattle.line.proofs.Digits.{length_bytes}

-- ---- words

behind_first : (x : ℕ) (w : List ℕ) → Solid (x ∷ w) → Solid w
behind_first x w free i h = free (suc i) (omega arith)

-- where the first space stands
at_seam : (w rest : List ℕ) → Solid w → index_of space (w ++ (space ∷ rest)) ≡ length w
at_seam [] rest free = refl
at_seam (x ∷ w) rest free = rw (ne_eqb x space (free 0 (omega arith))) (omega (arith, at_seam w rest (behind_first x w free)))

at_end : (w : List ℕ) → Solid w → index_of space w ≡ length w
at_end [] free = refl
at_end (x ∷ w) free = rw (ne_eqb x space (free 0 (omega arith))) (omega (arith, at_end w (behind_first x w free)))

-- Up to the first space stands word 0, and behind it the words that follow.
pub first_word : (w rest : List ℕ) → Solid w → word_of (w ++ (space ∷ rest)) 0 ≡ w
unfolding word_of words_from
first_word w rest free = rw (at_seam w rest free) (take-append_seam w (space ∷ rest))

pub next_word : (w rest : List ℕ) (k : ℕ) → Solid w → word_of (w ++ (space ∷ rest)) (suc k) ≡ word_of rest k
unfolding word_of words_from
next_word w rest k free =
    let one : suc (length w) ≡ length w + 1 = omega arith in
    rw (at_seam w rest free, one, drop-append-add w (space ∷ rest) 1)

-- A line without a space is word 0, and every other word is empty.
pub last_word : (w : List ℕ) → Solid w → word_of w 0 ≡ w
unfolding word_of words_from
last_word w free = rw (at_end w free) (take-length w)

pub no_word : (w : List ℕ) (k : ℕ) → Solid w → word_of w (suc k) ≡ []
unfolding word_of words_from
no_word w k free =
    let past : length w ≤ suc (length w) = omega arith in
    rw (at_end w free, drop_of_length-le w past, none_from k) (take-nil (index_of space []))

-- ---- digits

sixteens : (m : ℕ) → 16 ^ (2 * m) ≡ 256 ^ m
sixteens zero = refl
sixteens (suc m) =
    let two : 2 * suc m ≡ suc (suc (2 * m)) = omega arith in
    rw (two, pow-suc 16 (suc (2 * m)), pow-suc 16 (2 * m), sixteens m, pow-suc 256 m) (omega arith)

pub number_of_bytes : (ds : List ℕ) → length ds % 2 ≡ 0 → hex_number ds ≡ big_endian (hex_bytes ds)
unfolding hex_number hex_bytes big_endian
number_of_bytes [] h = refl
number_of_bytes (d ∷ []) h = absurd (omega arith)
number_of_bytes (d ∷ e ∷ ds) h =
    let even : length ds % 2 ≡ 0 = omega arith in
    let twice : length ds ≡ 2 * length (hex_bytes ds) = omega (arith, length_bytes ds) in
    let power : 16 ^ length ds ≡ 256 ^ length (hex_bytes ds) = ap (λ (k : ℕ). 16 ^ k) twice ∙ sixteens (length (hex_bytes ds)) in
    rw (pow-suc 16 (length ds), power, number_of_bytes ds even) (omega arith)
