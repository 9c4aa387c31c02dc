-- What document 01 says of numbers, proved of the definitions that the contracts cite.
-- Assumes nothing.
use Prim.Native.Nat.{ℕ, suc, ◌+◌, ◌-◌, ◌*◌, ◌^◌, ◌≤◌, ◌<◌}
use mathlib.Core.Path.{◌≡◌, refl, sym, ap, ◌∙◌}
use mathlib.Core.Logic.{◌↔◌, ⊎_elim}
use mathlib.Core.List.{List, ◌++◌}
use native.Mathlib.Omega.{arith}
use native.Mathlib.Nat.{le_trans, lt_of_le_of_lt}
use lib.Bits.{bit_or, bit_and, or_lt, or_add_and, and_le_l, and_le_r}
use lib.Count.{leading_top}
use lib.Dec.{lit<}
use lib.ListN.{length, drop, length-append, length-drop}
use lib.Pow.{pow_pos}
use lib.Seq.{drop-drop, drop-append_seam}
use Rattle.words.specs.Byte.{Bytes}
use Rattle.refusal.specs.declared.Reason.{Reason}
use Rattle.refusal.specs.declared.Reason.TheVariants.{NumberBroken}
use Rattle.words.specs.Got.{got, refused}
use Rattle.words.specs.Place.{Found}
use Rattle.words.proofs.Bytes.{as_long}
use Rattle.std.specs.Prelude.{Ok, Err}
use Rattle.words.specs.Word.{piece}
use Rattle.codec.specs.Spelling.{SpellsNumber}
use Rattle.codec.specs.declared.NumberError.TheVariants.{Eof, Overflow}
use Rattle.codec.specs.Number.{NumberRead, read_number, read_from, number_got}
use Rattle.codec.specs.Shortest.{shortest, stated_length}
use Rattle.codec.proofs.Spelled.{same_piece, as_number, read_groups, read_head, groups_pos}
use Rattle.codec.proofs.Shortest.{digit, spell_good, spell_digits, spell_least, spell_only, groups_fit, below_pow}

-- A number is read at a place exactly when some spelling of it stands there; the next place is where the spelling ends.
pub read_iff_stands : (s : List ℕ) (at n next : ℕ) → (read_number s at ≡ Ok (piece n next)) ↔ Found s (SpellsNumber n) at next
unfolding read_number
read_iff_stands s at n next = (to, from)
  where
    to : read_from 9 (drop at s) at ≡ Ok (piece n next) → Found s (SpellsNumber n) at next
    to e =
        let h = read_head 9 (drop at s) at e in
        let rest : drop next s ≡ h.rest =
        ap (λ k. drop k s) h.after ∙ sym (drop-drop (length h.bytes) at s) ∙ ap (drop (length h.bytes)) h.parts ∙ drop-append_seam h.bytes h.rest in
        record { bytes = h.bytes; at = record { stand = rw rest h.parts; ends = h.after }; has = as_number h.spells }

    from : Found s (SpellsNumber n) at next → read_from 9 (drop at s) at ≡ Ok (piece n next)
    from h = rw (h.at.stand, h.at.ends) (read_groups 9 h.has.groups h.has.few h.has.tenth _ at)

-- In document 01's numbers: the number and the place after it exactly when some spelling of it stands there, and 7 exactly when none of any does.
pub number_told : (s : List ℕ) (at : ℕ) → ((n next : ℕ) → (number_got (read_number s at) ≡ got n next) ↔ Found s (SpellsNumber n) at next)
    × ((number_got (read_number s at) ≡ refused NumberBroken) ↔ ((n next : ℕ) → Found s (SpellsNumber n) at next → ⊥))
number_told s at = (λ n next. (λ e. (read_iff_stands s at n next).0 (done (read_number s at) e), λ h. rw ((read_iff_stands s at n next).1 h)), (λ e n next h. clash (sym e ∙ ap number_got ((read_iff_stands s at n next).1 h)), λ none. other (read_number s at) λ n next e. none n next ((read_iff_stands s at n next).0 e)))
  where
    clash : {r : Reason} {n next : ℕ} → refused r ≡ got n next → ⊥
    clash e = let z : ◌≡◌ {A = ℕ} 0 1 = cc in omega arith

    done : (r : NumberRead) {n next : ℕ} → number_got r ≡ got n next → r ≡ Ok (piece n next)
    done (Ok r) {n} {next} e =
        let v : r.value ≡ n = cc in
        let q : r.next ≡ next = cc in
        rw (← v, ← q)
    done (Err Eof) e = absurd (clash e)
    done (Err Overflow) e = absurd (clash e)

    other : (r : NumberRead) → ((n next : ℕ) → r ≡ Ok (piece n next) → ⊥) → number_got r ≡ refused NumberBroken
    other (Ok r) f = absurd (f r.value r.next refl)
    other (Err Eof) f = refl
    other (Err Overflow) f = refl

-- Of two spellings that begin the same bytes, number and bytes are equal.
pub one_spelling : {n m : ℕ} {bs cs : List ℕ} (r t : List ℕ) → SpellsNumber n bs → SpellsNumber m cs → bs ++ r ≡ cs ++ t → (n ≡ m) × (bs ≡ cs)
one_spelling {n} {m} {bs} {cs} r t hb hc e =
    let rb = read_groups 9 hb.groups hb.few hb.tenth r 0 in
    let rc = read_groups 9 hc.groups hc.few hc.tenth t 0 in
    let both : ◌≡◌ {A = NumberRead} (Ok (piece n (0 + length bs))) (Ok (piece m (0 + length cs))) = sym rb ∙ ap (λ (l : List ℕ). read_from 9 l 0) e ∙ rc in
    let len : 0 + length bs ≡ 0 + length cs = (same_piece both).1 in
    let same : length bs ≡ length cs = omega arith in
    ((same_piece both).0, as_long bs cs r t same e)

-- What is read has a byte at least, and ends in the bytes.
pub read_moves : (s : List ℕ) (at n next : ℕ) → read_number s at ≡ Ok (piece n next) → (at < next) × (next ≤ length s)
read_moves s at n next e =
    let h = (read_iff_stands s at n next).0 e in
    let one : 0 < length h.bytes = groups_pos h.has.groups in
    let len : length s - at ≡ length h.bytes + length (drop next s) =
    sym (length-drop at s) ∙ ap length h.at.stand ∙ length-append h.bytes (drop next s) in
    let after : next ≡ at + length h.bytes = h.at.ends in
    (omega arith, omega arith)

-- The shortest form of a 64-bit number spells it.
pub shortest_spells : (n : ℕ) → n < 2 ^ 64 → SpellsNumber n (shortest n)
unfolding shortest
shortest_spells n h = as_number (spell_good 9 n h)

-- No spelling of the number in bytes is shorter.
pub none_shorter : {n : ℕ} {bs : List ℕ} → SpellsNumber n bs → Bytes bs → length (shortest n) ≤ length bs
unfolding shortest
none_shorter h byte = spell_least 9 h.groups byte

-- A spelling of the number in bytes that is as short as the shortest is the shortest.
pub none_as_short : {n : ℕ} {bs : List ℕ} → SpellsNumber n bs → Bytes bs → length bs ≡ length (shortest n) → bs ≡ shortest n
unfolding shortest
none_as_short h byte e = spell_only 9 h.groups byte e

-- What bytes spell fits 64 bits.
pub spells_fits : {n : ℕ} {bs : List ℕ} → SpellsNumber n bs → Bytes bs → n < 2 ^ 64
spells_fits h byte = groups_fit 9 h.groups h.few h.tenth byte

-- Its length is 70 minus the leading zeros of (number OR 1), divided by 7, rounded down.
pub shortest_length : (n : ℕ) → n < 2 ^ 64 → length (shortest n) ≡ stated_length n
unfolding shortest
shortest_length n h =
    let a : ℕ = bit_or n 1 in
    let sum : a + bit_and n 1 ≡ n + 1 = or_add_and n 1 in
    let low : bit_and n 1 ≤ n = and_le_l n 1 in
    let bit : bit_and n 1 ≤ 1 = and_le_r n 1 in
    let pos : 0 < a = omega arith in
    let above : n ≤ a = omega arith in
    let top = leading_top 64 a pos (or_lt 64 n 1 h (lit< tt)) in
    let d = spell_digits 9 n h in
    let m : ℕ = d.0 in
    let one : 1 < 2 ^ (7 * suc m) = omega (arith, digit m, pow_pos (7 * m)) in
    let under : a < 2 ^ (7 * suc m) = or_lt (7 * suc m) n 1 d.2.fits one in
    let high : top.0 < 7 * suc m = below_pow top.0 (7 * suc m) (lt_of_le_of_lt top.2 under) in
    let over : 7 * m ≤ top.0 =
    ⊎_elim (λ (e : m ≡ 0). omega arith)
    (λ (l : 2 ^ (7 * m) ≤ n). let q = below_pow (7 * m) (suc top.0) (lt_of_le_of_lt (le_trans l above) top.3) in omega arith)
    d.2.needs in
    d.1 ∙ omega (arith, top.1)

-- Reading after writing gives the number and the next place, wherever it stands and whatever follows.
pub read_written : (n : ℕ) → n < 2 ^ 64 → (xs ys : List ℕ) → read_number (xs ++ (shortest n ++ ys)) (length xs) ≡ Ok (piece n (length xs + length (shortest n)))
unfolding read_number
read_written n h xs ys =
    let g = shortest_spells n h in
    rw (drop-append_seam xs (shortest n ++ ys)) (read_groups 9 g.groups g.few g.tenth ys (length xs))
