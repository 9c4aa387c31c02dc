-- Places of a text: where a byte stands first, the part between two places, and what stands from a word on; the laws that the code goes by.
-- Assumes nothing.
use Prim.Native.Nat.{ℕ, zero, suc, ◌+◌, ◌-◌, ◌≤◌, ◌<◌, min, zero-le}
use mathlib.Core.Path.{◌≡◌, refl, sym, ap, ◌∙◌}
use mathlib.Core.Bool.{Bool, true, false}
use mathlib.Core.List.{List, []}
use native.Mathlib.Omega.{arith}
use lib.Dec.{leb}
use lib.ListN.{length, take, drop, length-drop, drop_of_length-le}
use lib.Seq.{take_all, drop-drop}
use borrow.Author.Tests.{leb-true, leb-false, le-leb, lt-leb}
use denote.Ref.{Bor}
use Rattle.std.proofs.Common.{Option, ◌==◌, not}
use Rattle.std.specs.Option.{unwrap_or}
use Rattle.std.specs.List.{position}
use Rattle.std.proofs.lemmas.List.Sums.{prefix_len-le-length}
use Rattle.std.proofs.lemmas.Grind.{common_steps}
use Rattle.std.proofs.lemmas.Bool.Decides.{nat_tests}
use Rattle.words.specs.Part.{Part, seen, part_at, front_of}
use Rattle.line.specs.Word.{index_of, space, words_from, word_of, between, ending, words_part, word_part}

-- ---- the first of a byte

-- the place at which it is found, or the length
pub found_or_end : (b : ℕ) (s : List ℕ) {n : ℕ} {o : Option ℕ} → o ≡ position (λ x. x == b) s → n ≡ unwrap_or o (length s) → n ≡ index_of b s
found_or_end b s e f = let most = prefix_len-le-length (λ x. not (x == b)) s in grind (arith, common_steps, nat_tests)

-- ---- a part

module _ (text : Bor (List ℕ)) (start end to : ℕ) (e : to ≡ min end (length text.now)) where
  -- up to the end or up to the text's end is the same
  same_bytes : start ≤ to → take (to - start) (drop start text.now) ≡ take (end - start) (drop start text.now)
  same_bytes h = go (leb end (length text.now)) refl
    where
      go : (t : Bool) → leb end (length text.now) ≡ t → take (to - start) (drop start text.now) ≡ take (end - start) (drop start text.now)
      go true l = let same : to ≡ end = omega (arith, leb-true end (length text.now) l) in rw same
      go false l =
          let short : length text.now < end = leb-false end (length text.now) l in
          let long : length (drop start text.now) ≡ length text.now - start = length-drop start text.now in
          take_all (to - start) (drop start text.now) (omega arith) ∙ sym (take_all (end - start) (drop start text.now) (omega arith))

  pub part_none : to < start → front_of text 0 ≡ between text start end
  unfolding between
  part_none h = let less : min end (length text.now) < start = omega arith in rw (lt-leb _ _ less)

  pub part_some : start ≤ to → part_at text start (to - start) ≡ between text start end
  unfolding between
  part_some h = let fits : start ≤ min end (length text.now) = omega arith in rw (le-leb _ _ fits, same_bytes h)

pub front_part : (text : Bor (List ℕ)) (n : ℕ) {r : Part} → r ≡ between text 0 n → r ≡ front_of text n
unfolding between
front_part text n e =
    let all : n - 0 ≡ n = omega arith in
    let start : 0 + text.ref_ptr.1 ≡ text.ref_ptr.1 = omega arith in
    rw (le-leb 0 (min n (length text.now)) zero-le, all, start) at e

-- ---- words

pub none_from : (k : ℕ) → words_from [] k ≡ []
unfolding words_from
none_from zero = refl
none_from (suc k) = none_from k

-- what the loop holds: what stands from word k on is what stands from a place on, behind the words that are not passed yet
pub record From (line : List ℕ) (k at passed : ℕ) : Type 0 where
  pub within : at ≤ length line
  pub same : words_from (drop at line) (k - passed) ≡ words_from line k

pub from_start : (line : List ℕ) (k : ℕ) → From line k 0 0
from_start line k = let all : k - 0 ≡ k = omega arith in record { within = zero-le; same = rw all refl }

-- what stands from a place on, where it is what stands from word k on
suffix : (line : Bor (List ℕ)) (k at : ℕ) → at ≤ length line.now → drop at line.now ≡ words_from line.now k → part_at line at (length line.now - at) ≡ words_part line k
suffix line k at within same =
    let long : length (words_from line.now k) ≡ length line.now - at = rw (← same) (length-drop at line.now) in
    let place : length line.now - length (words_from line.now k) ≡ at = omega arith in
    rw (place, ← same, take_all (length line.now - at) (drop at line.now) (omega (arith, length-drop at line.now)))

pub from_end : (line : Bor (List ℕ)) {k at passed : ℕ} → From line.now k at passed → k ≤ passed → part_at line at (length line.now - at) ≡ words_part line k
unfolding words_from
from_end line {k} {at} {passed} w h = let none : k - passed ≡ 0 = omega arith in suffix line k at w.within (rw none at w.same)

module _ {line : List ℕ} {k at passed next : ℕ} (w : From line k at passed) (more : passed < k) (found : next ≡ at + index_of space (drop at line)) where
  -- the words behind the next space
  behind : words_from (drop (next + 1) line) (k - (passed + 1)) ≡ words_from line k
  unfolding words_from
  behind =
      let place : at + suc (index_of space (drop at line)) ≡ next + 1 = omega arith in
      let one : k - passed ≡ suc (k - (passed + 1)) = omega arith in
      let ahead : words_from (drop (suc (index_of space (drop at line))) (drop at line)) (k - (passed + 1)) ≡ words_from line k = rw one at w.same in
      rw (drop-drop, place) at ahead

  pub word_passed : next < length line → From line k (next + 1) (passed + 1)
  word_passed h = record { within = omega arith; same = behind }

  pub none_left : length line ≤ next → [] ≡ words_from line k
  none_left h =
      let past : length line ≤ next + 1 = omega arith in
      sym (none_from (k - (passed + 1))) ∙ rw (drop_of_length-le line past) at behind

pub nothing_left : (line : Bor (List ℕ)) (k : ℕ) → [] ≡ words_from line.now k → part_at line (length line.now) (length line.now - length line.now) ≡ words_part line k
nothing_left line k e = let all : length line.now ≤ length line.now = omega arith in suffix line k (length line.now) all (drop_of_length-le line.now all ∙ e)

pub word_front : (line words : Bor (List ℕ)) (k n : ℕ) → seen words ≡ words_part line k → n ≡ 0 + index_of space (drop 0 words.now) → front_of words n ≡ word_part line k
unfolding word_of
word_front line words k n e f =
    let g : n ≡ index_of space words.now = omega arith in
    let b : words.now ≡ words_from line.now k = ap (λ p. p.bytes) e in
    let q : words.ref_ptr ≡ ending line (words_from line.now k) = ap (λ p. p.place) e in
    rw (g, b, q)
